-- Values and answers as numbers: a kind, as in a constant's cell (docs/PLAN.md), and 64 bits.
use Rattle.std.specs.Prelude.{ℕ, ◌/◌, ◌%◌, ◌^◌, true, false, eqb}
use Rattle.rules.specs.Lists.{Bytes}
use Rattle.rules.specs.Refusals.{refusal_number}
use Rattle.rules.specs.Schema.{Value, null, bool, int, float, text}
use Rattle.rules.specs.Arithmetic.{Worked, gives, fails}
use Rattle.rules.specs.Area.{bits, flag}
use Rattle.numbers.specs.Values.{value_at}
use Rattle.value_host.specs.declared.Answer.{Answer}

-- the value of a kind and 64 bits, the low half first; a text by its length and its address
unfoldable pub value_by : Bytes → Bytes → ℕ → ℕ → Value
value_by c q k n =
    elim (eqb k 5) [ true ↦ value_at c q k (n / 2 ^ 32) (n % 2 ^ 32) | false ↦ value_at c q k (n % 2 ^ 32) (n / 2 ^ 32) ]

-- and back; a text, which no operator gives, by its address
unfoldable pub kind_of : Value → ℕ
kind_of null = 1
kind_of (bool b) = 2
kind_of (int z) = 3
kind_of (float n) = 4
kind_of (text w) = 5

unfoldable pub bits_of : Value → ℕ
bits_of null = 0
bits_of (bool b) = flag b
bits_of (int z) = bits z
bits_of (float n) = n
bits_of (text w) = w.start

-- document 01's number of a refusal, or 0 and the value
unfoldable pub refused_by : ℕ → Answer
refused_by n = record { refusal = n; kind = 0; bits = 0 }

unfoldable pub answer_of : Worked → Answer
answer_of (gives v) = record { refusal = 0; kind = kind_of v; bits = bits_of v }
answer_of (fails k) = refused_by (refusal_number k)
