-- Whatever a tag's written form is refused for has its number.
use mathlib.Core.List.{List, [], ◌∷◌}
use mathlib.Core.Option.{Option, none, some}
use Prim.Native.Nat.{ℕ, zero, suc}
use lib.Dec.{lit<}
use Rattle.store.specs.Answer.{Answer}
use Rattle.store.proofs.Calls.Refusals.{Named, named, taken, named_bind, named_then, named-unless, named-present}
use Rattle.reader.specs.Tag.{Read, Attributes, tag_name, up_to, quoted, attribute, attributes_by, attributes, opening_tag, closing_tag, tag_by, tag_behind, next_tag}

name-named : (s : List ℕ) → Named (tag_name s)
unfolding tag_name
name-named s = named_then _ _ (named-unless _ 4 (lit< tt)) taken

pub up_to_named : (q : ℕ) (s : List ℕ) → Named (up_to q s)
unfolding up_to
up_to_named q s = named_bind _ _ (named-present _ 4 (lit< tt)) (λ t. named_bind _ _ (named-present _ 4 (lit< tt)) (λ v. taken))

quoted-named : (s : List ℕ) → Named (quoted s)
unfolding quoted
quoted-named [] = named (lit< tt)
quoted-named (q ∷ s) = named_then _ _ (named-unless _ 4 (lit< tt)) (up_to_named q s)

attribute-named : (s : List ℕ) → Named (attribute s)
unfolding attribute
attribute-named s = named_bind _ _ (name-named s) (λ n. named_bind _ _ (named-present _ 4 (lit< tt)) (λ t. named_bind _ _ (quoted-named _) (λ v. taken)))

by_named : (e : Option (Read Attributes)) (s : List ℕ) (f : List ℕ → Answer (Read Attributes)) → ((t : List ℕ) → Named (f t)) → Named (attributes_by e s f)
unfolding attributes_by
by_named (some e) s f h = taken
by_named none s f h =
    named_bind _ _ (named_then _ _ (named-unless _ 4 (lit< tt)) (attribute-named _)) (λ a. named_bind _ _ (h a.rest) (λ r. taken))

attributes-named : (n : ℕ) (s : List ℕ) → Named (attributes n s)
unfolding attributes
attributes-named zero s = named (lit< tt)
attributes-named (suc n) s = by_named _ s (λ t. attributes n t) (attributes-named n)

tag_named : (o : Option (List ℕ)) (t : List ℕ) → Named (tag_by o t)
unfolding tag_by opening_tag closing_tag
tag_named (some u) t = named_bind _ _ (name-named u) (λ n. named_bind _ _ (named-present _ 4 (lit< tt)) (λ v. taken))
tag_named none t =
    named_bind _ _ (name-named t) (λ n. named_bind _ _ (attributes-named _ _) (λ r. named_then _ _ (named-unless _ 4 (lit< tt)) taken))

pub behind-named : (t : List ℕ) → Named (tag_behind t)
unfolding tag_behind
behind-named t = tag_named _ t

pub next-named : (s : List ℕ) → Named (next_tag s)
unfolding next_tag
next-named s = named_bind _ _ (named-present _ 4 (lit< tt)) (λ t. behind-named t)
