mod Filled
mod FirstMapped
