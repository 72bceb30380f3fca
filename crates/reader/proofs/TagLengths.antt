-- Every tag that is read leaves fewer bytes.
use mathlib.Core.Path.{◌≡◌, refl}
use mathlib.Core.List.{List, [], ◌∷◌}
use mathlib.Core.Bool.{Bool, true, false}
use mathlib.Core.Option.{Option, none, some}
use Prim.Native.Nat.{ℕ, zero, suc, ◌+◌, ◌<◌, ◌≤◌}
use native.Mathlib.Omega.{arith}
use lib.Dec.{eqb}
use lib.ListN.{length}
use Rattle.names.specs.Bytes.{bytes}
use Rattle.names.specs.Class.{is_white}
use Rattle.names.specs.Pick.{pick}
use Rattle.names.specs.Scan.{after}
use Rattle.names.specs.Text.{in_value}
use Rattle.names.proofs.ScanLaws.{length-after}
use Rattle.store.specs.Answer.{accepted}
use Rattle.store.proofs.Calls.Answers.{refused-accepted, accepted-same, bind_accepted, then_accepted, present-accepted}
use Rattle.reader.specs.Tag.{Read, Attr, Tag, strip, skip, is_tag_byte, tag_name, up_to, quoted, attribute, Attributes, end_by, tag_end, attribute_in_front, attributes_by, attributes, opening_tag, closing_tag, tag_by, tag_behind, next_tag}

pub strip-length : (p s t : List ℕ) → strip p s ≡ some t → length s ≡ length p + length t
unfolding strip pick
strip-length [] s t e = let z : s ≡ t = cc in rw z (omega arith)
strip-length (c ∷ p) [] t e = let z : ◌≡◌ {A = ℕ} 0 1 = cc in absurd (omega arith)
strip-length (c ∷ p) (d ∷ s) t e = go (eqb c d) (strip-length p s t) e
  where
    go : (b : Bool) → (strip p s ≡ some t → length s ≡ length p + length t) → pick b (strip p s) none ≡ some t → suc (length s) ≡ suc (length p) + length t
    go true ih e = let h = ih e in omega arith
    go false ih e = let z : ◌≡◌ {A = ℕ} 0 1 = cc in absurd (omega arith)

pub skip-length : (s : List ℕ) → length (skip s) ≤ length s
unfolding skip
skip-length s = length-after is_white s

pub tag_name-length : (s : List ℕ) (n : Read (List ℕ)) → tag_name s ≡ accepted n → length n.rest ≤ length s
unfolding tag_name
tag_name-length s n e = let t = then_accepted _ 4 _ n e in rw (← accepted-same t.1) (length-after is_tag_byte s)

pub up_to_shorter : (q : ℕ) (s : List ℕ) (v : Read (List ℕ)) → up_to q s ≡ accepted v → length v.rest < length s
unfolding up_to
up_to_shorter q s v e =
    let t = bind_accepted _ _ v e in
    let w = bind_accepted _ _ v t.2 in
    let l = strip-length (q ∷ []) (after (in_value q) s) t.0 (present-accepted _ 4 t.0 t.1) in
    let k = length-after (in_value q) s in
    rw (← accepted-same w.2) (omega arith)

pub quoted_shorter : (s : List ℕ) (v : Read (List ℕ)) → quoted s ≡ accepted v → length v.rest < length s
unfolding quoted
quoted_shorter [] v e = absurd (refused-accepted 4 v e)
quoted_shorter (q ∷ s) v e = let k = up_to_shorter q s v (then_accepted _ 4 _ v e).1 in omega arith

pub attribute_shorter : (s : List ℕ) (a : Read Attr) → attribute s ≡ accepted a → length a.rest < length s
unfolding attribute
attribute_shorter s a e =
    let n = bind_accepted _ _ a e in
    let t = bind_accepted _ _ a n.2 in
    let v = bind_accepted _ _ a t.2 in
    let name = tag_name-length s n.0 n.1 in
    let equals = strip-length (bytes "=") (skip n.0.rest) t.0 (present-accepted _ 4 t.0 t.1) in
    let value = quoted_shorter (skip t.0) v.0 v.1 in
    rw (← accepted-same v.2) (omega (arith, skip-length n.0.rest, skip-length t.0))

tag_end-length : (s : List ℕ) (r : Read Attributes) → tag_end s ≡ some r → length r.rest ≤ length s
unfolding tag_end end_by
tag_end-length s r e = go (strip (bytes ">") s) (strip (bytes "/>") s) refl refl e
  where
    go : (a b : Option (List ℕ)) → strip (bytes ">") s ≡ a → strip (bytes "/>") s ≡ b → end_by a b ≡ some r → length r.rest ≤ length s
    go (some t) b p q e = let l = strip-length (bytes ">") s t p in let z : t ≡ r.rest = cc in rw (← z) (omega arith)
    go none (some t) p q e = let l = strip-length (bytes "/>") s t q in let z : t ≡ r.rest = cc in rw (← z) (omega arith)
    go none none p q e = let z : ◌≡◌ {A = ℕ} 0 1 = cc in absurd (omega arith)

pub attributes-length : (n : ℕ) (s : List ℕ) (r : Read Attributes) → attributes n s ≡ accepted r → length r.rest ≤ length s
unfolding attributes attributes_by attribute_in_front
attributes-length zero s r e = absurd (refused-accepted 4 r e)
attributes-length (suc n) s r e = go (attributes-length n) (tag_end (skip s)) refl e
  where
    go : ((s : List ℕ) (r : Read Attributes) → attributes n s ≡ accepted r → length r.rest ≤ length s)
        → (o : Option (Read Attributes)) → tag_end (skip s) ≡ o → attributes_by o s (λ t. attributes n t) ≡ accepted r → length r.rest ≤ length s
    go ih (some x) p e = let l = tag_end-length (skip s) x p in rw (← accepted-same e) (omega (arith, skip-length s))
    go ih none p e =
        let a = bind_accepted _ _ r e in
        let t = then_accepted _ 4 _ a.0 a.1 in
        let b = bind_accepted _ _ r a.2 in
        let first = attribute_shorter (skip s) a.0 t.1 in
        let others = ih a.0.rest b.0 b.1 in
        rw (← accepted-same b.2) (omega (arith, skip-length s))

opening_tag-length : (s : List ℕ) (t : Read Tag) → opening_tag s ≡ accepted t → length t.rest ≤ length s
unfolding opening_tag
opening_tag-length s t e =
    let n = bind_accepted _ _ t e in
    let r = bind_accepted _ _ t n.2 in
    let d = then_accepted _ 4 _ t r.2 in
    let name = tag_name-length s n.0 n.1 in
    let others = attributes-length _ n.0.rest r.0 r.1 in
    rw (← accepted-same d.1) (omega arith)

closing_tag-length : (s : List ℕ) (t : Read Tag) → closing_tag s ≡ accepted t → length t.rest ≤ length s
unfolding closing_tag
closing_tag-length s t e =
    let n = bind_accepted _ _ t e in
    let u = bind_accepted _ _ t n.2 in
    let name = tag_name-length s n.0 n.1 in
    let ends = strip-length (bytes ">") (skip n.0.rest) u.0 (present-accepted _ 4 u.0 u.1) in
    rw (← accepted-same u.2) (omega (arith, skip-length n.0.rest))

tag_by-length : (o : Option (List ℕ)) (u : List ℕ) (t : Read Tag) → strip (bytes "/") u ≡ o → tag_by o u ≡ accepted t → length t.rest ≤ length u
unfolding tag_by
tag_by-length (some v) u t p e = let l = strip-length (bytes "/") u v p in let k = closing_tag-length v t e in omega arith
tag_by-length none u t p e = opening_tag-length u t e

pub behind-length : (u : List ℕ) (t : Read Tag) → tag_behind u ≡ accepted t → length t.rest ≤ length u
unfolding tag_behind
behind-length u t e = tag_by-length (strip (bytes "/") u) u t refl e

pub next_tag_shorter : (s : List ℕ) (t : Read Tag) → next_tag s ≡ accepted t → length t.rest < length s
unfolding next_tag
next_tag_shorter s t e =
    let u = bind_accepted _ _ t e in
    let l = strip-length (bytes "<") (skip s) u.0 (present-accepted _ 4 u.0 u.1) in
    let k = behind-length u.0 t u.2 in
    omega (arith, skip-length s)
