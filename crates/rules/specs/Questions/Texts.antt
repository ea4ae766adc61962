-- The texts that several questions share.
use Prim.Native.String.{String, ◌++◌}

-- heap with the columns id, p1, p2
abbrev pub heap : String
heap = "table heap 0/column id int notnull/nodefault/column p1 float null/nodefault/column p2 float null/nodefault/"

-- t with a, b
abbrev pub ab : String
ab = "table t 0/column a int notnull/nodefault/column b int null/nodefault/"

-- t with a, b, and u with c, d, e
abbrev pub tu : String
tu =
    ab
    ++ "table u 0/column c int notnull/nodefault/column d int null/nodefault/column e int null/nodefault/"

-- t with a, b, where b has a default
abbrev pub ab_default : String
ab_default = "table t 0/column a int notnull/nodefault/column b int null/int 7/"

-- t with a, b, where a has a default and b is the key
abbrev pub keyed : String
keyed = "table t 1/column a int null/int 7/column b int notnull/nodefault/"

-- P1's statement
abbrev pub listed : String
listed = "select/item/col p1/from heap/where/op ge/col p2/int 55/order asc/col id/end/"
