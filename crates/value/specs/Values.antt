-- Values and worked-out values, over the two texts: the catalog c and the statement q.
use Rattle.std.specs.Prelude.{Result, Ok, Err}
use Rattle.std.specs.Float.Ieee as Ieee
use Rattle.std.specs.Float.{binary64}
use Rattle.rules.specs.Lists.{Bytes}
use Rattle.numbers.specs.Reasons.{reason_of}
use Rattle.numbers.specs.declared.refusals.Reason.{Reason}
use Rattle.rules.specs.Places.{word_at}
use Rattle.rules.specs.Schema as rule
use Rattle.rules.specs.Schema.{null, bool, int, float, text}
use Rattle.rules.specs.Arithmetic as arithmetic
use Rattle.rules.specs.Arithmetic.{Worked, gives, fails}
use Rattle.value.specs.declared.Value.{Value}
use Rattle.value.specs.declared.Value.TheVariants as Va

-- a float by its 64 bits, a NaN by 7ff8000000000000
unfoldable pub value_of : Bytes → Bytes → Value → rule.Value
unfolding Ieee.to_bits
value_of c q Va.Null = null
value_of c q (Va.Bool b) = bool b
value_of c q (Va.Int z) = int z
value_of c q (Va.Float x) = float (Ieee.to_bits binary64 x)
value_of c q (Va.Text p) = text (word_at c q p.address p.length)

unfoldable pub worked_of : Bytes → Bytes → Result Value Reason → Worked
worked_of c q (Ok v) = gives (value_of c q v)
worked_of c q (Err r) = fails (reason_of r)

-- a value as the code holds it: a literal's NaN becomes 7ff8000000000000
unfoldable pub held : rule.Value → rule.Value
unfolding Ieee.to_bits
held null = null
held (bool b) = bool b
held (int n) = int n
held (float b) = float (Ieee.to_bits binary64 (arithmetic.float_of b))
held (text t) = text t
