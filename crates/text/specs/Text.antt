-- Text as bytes: words, and numbers in decimal and in lower-case hexadecimal (RULES 8.4).
use Rattle.std.specs.Prelude.{ℕ, zero, suc, ◌+◌, ◌/◌, ◌%◌, List, [], ◌∷◌, ◌++◌, ltb, if◌then◌else◌}
use Prim.Native.Char.{code}
use Prim.Native.String.{String}
use Prim.Native.String as Native

abbrev pub text : String → List ℕ
text Native.[] = []
text (Native.◌∷◌ c s) = code c ∷ text s

-- '0'-'9', 'a'-'f'
abbrev pub digit : ℕ → ℕ
digit n = if ltb n 10 then 48 + n else 87 + n

-- the last n digits of a number in a base
unfoldable pub digits : (base n value : ℕ) → List ℕ → List ℕ
digits b zero v rest = rest
digits b (suc n) v rest = digits b n (v / b) (digit (v % b) ∷ rest)

-- how many decimal digits a number below 10 ^ limit has
unfoldable pub decimal_length : (limit value : ℕ) → ℕ
decimal_length zero v = 1
decimal_length (suc n) v = let more = suc (decimal_length n (v / 10)) in if ltb v 10 then 1 else more

abbrev pub decimal : ℕ → List ℕ
decimal v = digits 10 (decimal_length 20 v) v []

abbrev pub hex8 : ℕ → List ℕ
hex8 v = digits 16 8 v []

abbrev pub hex16 : ℕ → List ℕ
hex16 v = digits 16 16 v []

-- two addresses between spaces
abbrev pub addresses : (pc sp : ℕ) → List ℕ
addresses pc sp = text " " ++ hex8 pc ++ text " " ++ hex8 sp ++ text " "

-- n texts one after the other, by number, the first of which has number k
unfoldable pub numbered : (ℕ → List ℕ) → (k n : ℕ) → List ℕ
numbered f k zero = []
numbered f k (suc n) = f k ++ numbered f (k + 1) n
