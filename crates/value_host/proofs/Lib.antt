mod Coded
mod Halves
mod Held
