-- A byte of a value as the code writes it, and values byte by byte.
use mathlib.Core.Path.{◌≡◌, refl, sym, ◌∙◌}
use mathlib.Core.Bool.{Bool, true, false, ◌&&◌, false≢true}
use mathlib.Core.List.{List, [], ◌∷◌, ◌++◌}
use Prim.Native.Nat.{ℕ, ◌+◌, ◌≤◌, ◌<◌}
use lib.Dec.{eqb}
use lib.ListN.{length, drop, get_or}
use Rattle.std.specs.List.{list_all}
use Rattle.names.specs.Pick.{pick}
use Rattle.names.specs.Text.{escapes, escape_by, escape}
use Rattle.names.proofs.Walk.{drop_here, drop_past}
use Rattle.snapshot.specs.code.Writing.{Put, is_plain_byte}
use Rattle.snapshot.specs.declared.writer.Output.{Output}
use Rattle.snapshot.proofs.Emits.{Remains, remains_then, remains_none}

-- A byte that has no escape is written as it is.
by_four : (a b d f : Bool) (p q r s x : List ℕ) → pick a false (pick b false (pick d false (pick f false true))) ≡ true → pick a p (pick b q (pick d r (pick f s x))) ≡ x
unfolding pick
by_four true b d f p q r s x e = absurd (false≢true e)
by_four false true d f p q r s x e = absurd (false≢true e)
by_four false false true f p q r s x e = absurd (false≢true e)
by_four false false false true p q r s x e = absurd (false≢true e)
by_four false false false false p q r s x e = refl

pub plain_byte : (c : ℕ) → is_plain_byte c ≡ true → escape_by escapes c ≡ c ∷ []
unfolding is_plain_byte escape_by escapes
plain_byte c e = by_four (eqb c 38) (eqb c 60) (eqb c 62) (eqb c 34) _ _ _ _ (c ∷ []) e

-- A value, byte after byte.
escape_here : (s : List ℕ) (i : ℕ) → i < length s → escape (drop i s) ≡ escape_by escapes (get_or s i 0) ++ escape (drop (i + 1) s)
unfolding escape
escape_here s i h = rw (drop_here s i h)

escape_past : (s : List ℕ) (i : ℕ) → length s ≤ i → escape (drop i s) ≡ []
unfolding escape
escape_past s i h = rw (drop_past s i h)

module _ (o : Output) (s : List ℕ) where
  pub escape-more : (i : ℕ) (p q : Output) → Remains o p (escape s) (escape (drop i s)) → i < length s → Put p q (escape_by escapes (get_or s i 0))
      → Remains o q (escape s) (escape (drop (i + 1) s))
  escape-more i p q k h w = remains_then o p q (escape s) (escape_by escapes (get_or s i 0)) (escape (drop (i + 1) s)) (escape (drop i s)) (escape_here s i h) k w

  pub escape-all : (i : ℕ) (p : Output) → Remains o p (escape s) (escape (drop i s)) → length s ≤ i → Put o p (escape s)
  escape-all i p k h = remains_none o p (escape s) (escape (drop i s)) (escape_past s i h) k

pub ruleset escaping = (escape-more, escape-all)

-- A value with nothing to escape.
both : (a b : Bool) → (a && b) ≡ true → (a ≡ true) × (b ≡ true)
both true b e = (refl, e)
both false b e = absurd (false≢true e)

plain_value : (s : List ℕ) → list_all is_plain_byte s ≡ true → escape s ≡ s
unfolding escape
plain_value [] e = refl
plain_value (c ∷ s) e = let w = both (is_plain_byte c) (list_all is_plain_byte s) e in rw (plain_byte c w.0, plain_value s w.1)

pub plain_put : (o p : Output) (s : List ℕ) (t : Bool) → t ≡ list_all is_plain_byte s → t ≡ true → Put o p s → Put o p (escape s)
plain_put o p s t e f w = rw (plain_value s (sym e ∙ f)) w
