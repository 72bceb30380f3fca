-- A value written between double quotes is read back, with what follows it.
use mathlib.Core.Path.{◌≡◌, refl}
use mathlib.Core.Bool.{true, false}
use mathlib.Core.List.{List, [], ◌∷◌, ◌++◌}
use Prim.Native.Nat.{ℕ}
use Rattle.names.specs.Bytes.{all}
use Rattle.names.specs.Class.{is_value_byte}
use Rattle.names.specs.Pick.{◌and◌}
use Rattle.names.specs.Text.{in_value, escape}
use Rattle.store.specs.Answer.{accepted, ◌>>=◌, ◌>>◌, unless, present}
use Rattle.reader.specs.Tag.{read, is_quote, up_to, quoted}
use Rattle.reader.proofs.Front.{front_at, after-at, strip-at}
use Rattle.names.proofs.Escape.{decode-escape, escape_in}

-- A quote ends a value.
quote_ends : in_value 34 34 ≡ false
unfolding in_value is_value_byte ◌and◌
quote_ends = refl

pub quoted-escape : (v t : List ℕ) → all is_value_byte v ≡ true → quoted (34 ∷ escape v ++ 34 ∷ t) ≡ accepted (read v t)
unfolding quoted up_to is_quote unless present ◌>>=◌ ◌>>◌
quoted-escape v t e =
    rw (
      after-at (in_value 34) (escape v) 34 t (escape_in v e) quote_ends,
      front_at (in_value 34) (escape v) 34 t (escape_in v e) quote_ends,
      strip-at (34 ∷ []) t,
      decode-escape v,
    )
