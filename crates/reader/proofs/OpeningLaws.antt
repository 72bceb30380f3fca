-- An opening tag judged by its place, its attributes and their values: what the code found of each, and its answer.
use mathlib.Core.Path.{◌≡◌, refl, sym, ◌∙◌}
use mathlib.Core.Bool.{Bool, true, false, not, ◌||◌}
use mathlib.Core.List.{List, [], ◌∷◌, map}
use mathlib.Core.Option.{Option}
use Prim.Native.Nat.{ℕ, zero, suc, ◌+◌, ◌<◌}
use native.Mathlib.Omega.{arith}
use lib.Dec.{eqb, lit<}
use lib.ListN.{length, get_or}
use borrow.Author.Tests.{eqb-true, eqb-false, not-true, not-false}
use Rattle.names.specs.Bytes.{bytes, all, any}
use Rattle.names.specs.Order.{alike, same}
use Rattle.names.specs.Pick.{pick, ◌and◌}
use Rattle.names.proofs.Tests.{below, at-below, and_l, and_r, and_true}
use Rattle.store.specs.Answer.{Answer, refused, accepted, ◌>>=◌, ◌>>◌, unless, present}
use Rattle.reader.specs.Element.{name, Attribute, elements, element_at, attribute_at, get, known, complete, formed_by, formed, both, may_stand, one_sort, well_placed}
use Rattle.reader.specs.code.Found.{attribute_value, attrs_of}
use Rattle.reader.specs.Tag.{Attr, has}
use Rattle.reader.specs.declared.attributes.Found.{Found}
use Rattle.reader.specs.declared.cursor.TagRead.{TagRead}
use Rattle.reader.specs.code.Placed.{Placed}
use Rattle.reader.proofs.Forms.{not_there}
use Rattle.reader.proofs.ElementPlaced.{placed_not, name_misplaced, name-placed, row_below, row-stands}
use Rattle.reader.specs.code.Answered.{name_of, Attributed}
use Rattle.reader.specs.code.ElementNames.{row_here}
use Rattle.reader.specs.code.Values.{value_in, is_there, forms_of, formed_from, required_there, beside_null, named_here}
use Rattle.reader.proofs.PlainValues.{rows_short}

-- The name of the row's element: no element stands in an item.
nothing-inside : (items : Option Bool) (level : ℕ) (n : List ℕ) (l : List Attr) → level ≡ 7 → well_placed items level n l ≡ refused 5
unfolding may_stand pick ◌and◌
nothing-inside items level n l z = placed_not items level n l (λ k p. rw z)

named_not : (items : Option Bool) (level : ℕ) (n : List ℕ) (l : List Attr) → named_here level (row_here level n) n ≡ false → well_placed items level n l ≡ refused 5
unfolding named_here
named_not items level n l f = go (eqb level 7) refl f
  where
    go : (b : Bool) → eqb level 7 ≡ b → (not b and same n (element_at (row_here level n)).name) ≡ false → well_placed items level n l ≡ refused 5
    go true e g = nothing-inside items level n l (eqb-true level 7 e)
    go false e g = name_misplaced items level n l (unfold ◌and◌ in g)

-- The three tests behind the element's name.
placing : ℕ → Bool → Bool → Bool → Answer ℕ
placing e true true true = accepted e
placing e true true false = refused 7
placing e true false c = refused 16
placing e false b c = refused 6

placing_is : (e : ℕ) (a b c : Bool) → (unless true 5 >> unless a 6 >> unless b 16 >> unless c 7 >> accepted e) ≡ placing e a b c
unfolding placing unless ◌>>◌ ◌>>=◌
placing_is e true true true = refl
placing_is e true true false = refl
placing_is e true false c = refl
placing_is e false b c = refl

-- Values, one after another, against what the reader found.
row_told : (s : List ℕ) (l : List Attr) (f : Found) (d : Attribute) (rs : List Attribute) (j : ℕ)
    → ((i : ℕ) → i < length rs → get (get_or rs i d).name l ≡ attribute_value s f.starts f.ends (j + i))
    → all (λ r. formed_by r.form (get r.name l)) rs ≡ formed_from (map (λ (a : Attribute). a.form) rs) j s f
unfolding all formed_from attribute_value value_in
row_told s l f d [] j h = refl
row_told s l f d (r ∷ rs) j h =
    let z : j + 0 ≡ j = omega arith in
    let first : get r.name l ≡ attribute_value s f.starts f.ends (j + 0) = h 0 (omega arith) in
    let here : get r.name l ≡ value_in s (get_or f.starts j 0) (get_or f.ends j 0) = rw z at first in
    let rest = row_told s l f d rs (suc j) (λ i k. let z : j + suc i ≡ suc j + i = omega arith in rw (← z) (h (suc i) (omega arith))) in
    rw (here, rest)

module _ (s : List ℕ) (t : TagRead) (deep : t.element < 12) (w : Attributed s t) where
  abbrev l : List Attr
  l = attrs_of s t

  formed-told : formed (element_at t.element).attributes l ≡ formed_from (forms_of t.element) 0 s t.found
  unfolding formed forms_of attribute_at
  formed-told =
      row_told s l t.found record { name = []; required = false; form = name } (element_at t.element).attributes 0
      (λ i h. let z : 0 + i ≡ i = omega arith in let short = rows_short t.element deep in rw z (w.holds.values i (omega arith)))

  element-named : (items : Option Bool) (level : ℕ) → level < 8 → t.element ≡ row_here level (name_of s t) → named_here level t.element (name_of s t) ≡ true
      → well_placed items level (name_of s t) l
      ≡ placing t.element (known (element_at t.element).attributes l and complete (element_at t.element).attributes l) (one_sort items t.element)
      (formed (element_at t.element).attributes l and not (both l))
  unfolding well_placed present ◌>>=◌ named_here
  element-named items level h row f =
      let outside = eqb-false level 7 (not-true _ (and_l (not (eqb level 7)) _ f)) in
      let below : level < 7 = omega (arith, h, outside) in
      let stands : may_stand level t.element ≡ true = rw row (row-stands level (name_of s t) below) in
      rw (name-placed t.element (name_of s t) deep (and_r (not (eqb level 7)) _ f), stands)
      (placing_is t.element _ _ _)

-- Attributes that the element's row requires: the first of it.
complete-at : (s : List ℕ) (e : ℕ) (t : TagRead) → e < 12 → ((j : ℕ) → j < 8 → has (attribute_at e j) (attrs_of s t) ≡ is_there t.found.starts j)
    → complete (element_at e).attributes (attrs_of s t) ≡ required_there e t.found.starts
unfolding complete all element_at elements attribute_at required_there pick ◌and◌
complete-at s zero t h w = rw (w 0 (lit< tt), w 1 (lit< tt), w 2 (lit< tt), w 3 (lit< tt), w 4 (lit< tt), and_true (is_there t.found.starts 4))
complete-at s (suc zero) t h w = rw (w 0 (lit< tt), w 1 (lit< tt))
complete-at s (suc (suc zero)) t h w = rw (w 0 (lit< tt))
complete-at s (suc (suc (suc zero))) t h w = rw (w 0 (lit< tt))
complete-at s (suc (suc (suc (suc zero)))) t h w = rw (w 0 (lit< tt))
complete-at s (suc (suc (suc (suc (suc zero))))) t h w = rw (w 0 (lit< tt))
complete-at s (suc (suc (suc (suc (suc (suc zero)))))) t h w = rw (w 0 (lit< tt))
complete-at s (suc (suc (suc (suc (suc (suc (suc zero))))))) t h w = rw (w 0 (lit< tt))
complete-at s (suc (suc (suc (suc (suc (suc (suc (suc zero)))))))) t h w = rw (w 0 (lit< tt))
complete-at s (suc (suc (suc (suc (suc (suc (suc (suc (suc zero))))))))) t h w = rw (w 0 (lit< tt))
complete-at s (suc (suc (suc (suc (suc (suc (suc (suc (suc (suc zero)))))))))) t h w = rw (w 0 (lit< tt))
complete-at s (suc (suc (suc (suc (suc (suc (suc (suc (suc (suc (suc zero))))))))))) t h w = rw (w 0 (lit< tt))
complete-at s (suc (suc (suc (suc (suc (suc (suc (suc (suc (suc (suc (suc e)))))))))))) t h w = absurd (omega arith)

-- Value beside IsNull: only ItemData may have either.
value-rows : below 12 (λ e. eqb e 6 || not (any (λ (r : Attribute). same r.name (bytes "Value")) (element_at e).attributes)) ≡ true
unfolding any element_at elements same alike ◌and◌
value-rows = refl

no_value : (e : ℕ) → e < 12 → eqb e 6 ≡ false → any (λ (r : Attribute). same r.name (bytes "Value")) (element_at e).attributes ≡ false
no_value e h n =
    not-true _
    (rw n at (at-below 12 (λ e. eqb e 6 || not (any (λ (r : Attribute). same r.name (bytes "Value")) (element_at e).attributes)) value-rows e h))

both-item : (s : List ℕ) (t : TagRead) → ((j : ℕ) → j < 8 → has (attribute_at 6 j) (attrs_of s t) ≡ is_there t.found.starts j)
    → both (attrs_of s t) ≡ beside_null 6 t.found.starts
unfolding both beside_null attribute_at element_at elements ◌and◌
both-item s t w = rw (w 1 (lit< tt), w 2 (lit< tt))

both_at : (s : List ℕ) (e : ℕ) (t : TagRead) → Placed e (attrs_of s t) → ((j : ℕ) → j < 8 → has (attribute_at e j) (attrs_of s t) ≡ is_there t.found.starts j)
    → both (attrs_of s t) ≡ beside_null e t.found.starts
unfolding both beside_null ◌and◌
both_at s e t p w = go (eqb e 6) refl
  where
    go : (b : Bool) → eqb e 6 ≡ b → both (attrs_of s t) ≡ beside_null e t.found.starts
    go true c = let q : e ≡ 6 = eqb-true e 6 c in rw q (both-item s t (λ j h. rw q at (w j h)))
    go false c =
        let v : has (bytes "Value") (attrs_of s t) ≡ false = not_there e (attrs_of s t) (bytes "Value") p (no_value e p.deep c) in
        rw (v, c)

-- The code's answers, by what its tests showed.
module _ (items : Option Bool) (s : List ℕ) (level : ℕ) (t : TagRead) (row : t.element ≡ row_here level (name_of s t)) (b : Bool)
    (named : b ≡ named_here level t.element (name_of s t)) where
  pub other-element : not b ≡ true → refused 5 ≡ well_placed items level (name_of s t) (attrs_of s t)
  unfolding pick
  other-element f = sym (named_not items level (name_of s t) (attrs_of s t) (rw (← row) (sym named ∙ not-true b f)))

  module _ (is-here : not b ≡ false) (high : level < 8) (w : Attributed s t) where
    deep : t.element < 12
    deep = rw row (row_below level (name_of s t) high)

    judged : well_placed items level (name_of s t) (attrs_of s t)
        ≡ placing t.element (not t.found.unknown and required_there t.element t.found.starts) (one_sort items t.element)
        (formed_from (forms_of t.element) 0 s t.found and not (both (attrs_of s t)))
    judged =
        element-named s t deep w items level high row (sym named ∙ not-false b is-here)
        ∙ rw (w.known, complete-at s t.element t deep (λ j h. w.holds.there j h), formed-told s t deep w)

    pub unknown_attribute : t.found.unknown ≡ true → refused 6 ≡ well_placed items level (name_of s t) (attrs_of s t)
    unfolding pick placing ◌and◌
    unknown_attribute k = sym (judged ∙ rw k)

    module _ (k : t.found.unknown ≡ false) (c : Bool) (is_c : c ≡ required_there t.element t.found.starts) where
      pub attribute-missing : not c ≡ true → refused 6 ≡ well_placed items level (name_of s t) (attrs_of s t)
      unfolding pick placing ◌and◌
      attribute-missing f = sym (judged ∙ rw (k, ← is_c, not-true c f))

      module _ (whole : not c ≡ false) (o : Bool) (is-o : o ≡ one_sort items t.element) where
        pub items_mixed : not o ≡ true → refused 16 ≡ well_placed items level (name_of s t) (attrs_of s t)
        unfolding pick placing ◌and◌
        items_mixed f = sym (judged ∙ rw (k, ← is_c, not-false c whole, ← is-o, not-true o f))

        module _ (alike : not o ≡ false) (v : Bool) (is-v : v ≡ formed_from (forms_of t.element) 0 s t.found) where
          judged_last : well_placed items level (name_of s t) (attrs_of s t) ≡ placing t.element true true (v and not (both (attrs_of s t)))
          unfolding ◌and◌
          judged_last = judged ∙ rw (← is_c, not-false c whole, ← is-o, not-false o alike, ← is-v, k)

          pub value_unformed : not v ≡ true → refused 7 ≡ well_placed items level (name_of s t) (attrs_of s t)
          unfolding pick placing ◌and◌
          value_unformed f = sym (judged_last ∙ rw (not-true v f))

          module _ (fine : not v ≡ false) (x : Bool) (is_x : x ≡ beside_null t.element t.found.starts) where
            both_is : both (attrs_of s t) ≡ x
            both_is =
                both_at s t.element t
                record {
                  deep = deep;
                  known' = w.known ∙ rw k;
                  complete' = complete-at s t.element t deep (λ j h. w.holds.there j h) ∙ sym is_c ∙ not-false c whole;
                  formed' = formed-told s t deep w ∙ sym is-v ∙ not-false v fine;
                }
                (λ j h. w.holds.there j h)
                ∙ sym is_x

            pub value_and_null : x ≡ true → refused 7 ≡ well_placed items level (name_of s t) (attrs_of s t)
            unfolding pick placing ◌and◌
            value_and_null f = sym (judged_last ∙ rw (not-false v fine, both_is, f))

            pub well_formed : x ≡ false → accepted t.element ≡ well_placed items level (name_of s t) (attrs_of s t)
            unfolding pick placing ◌and◌
            well_formed f = sym (judged_last ∙ rw (not-false v fine, both_is, f))

pub ruleset place-cases = (other-element, unknown_attribute, attribute-missing, items_mixed, value_unformed, value_and_null, well_formed)
