-- A tag's attributes are those that stand one after another, if its end follows them.
use mathlib.Core.Path.{◌≡◌, refl, ◌∙◌}
use mathlib.Core.Bool.{Bool, true, false}
use mathlib.Core.List.{List, [], ◌∷◌}
use mathlib.Core.Option.{Option, none, some}
use Prim.Native.Nat.{ℕ, zero, suc, ◌<◌}
use native.Mathlib.Omega.{arith}
use lib.Dec.{eqb}
use lib.ListN.{length}
use borrow.Author.Tests.{eqb-true}
use Rattle.names.specs.Bytes.{bytes, ch}
use Rattle.names.specs.Class.{is_white, is_letter}
use Rattle.names.specs.Pick.{pick}
use Rattle.store.specs.Answer.{Answer, refused, accepted, ◌>>=◌, ◌>>◌, unless, present}
use Rattle.store.proofs.Calls.Answers.{then_accepted}
use Rattle.reader.specs.Tag.{Read, read, Attr, strip, first_is, skip, tag_name, up_to, quoted, attribute, Attributes, end_by, tag_end, attribute_in_front, attributes_by, attributes}
use Rattle.reader.specs.code.Places.{spaced, listed_by, listed_in, listed}
use Rattle.reader.proofs.TagLengths.{skip-length, attribute_shorter}

-- The written form is refused with 4 alone.
unfoldable pub only_four : {A : Type 0} → Answer A → Bool
only_four (refused n) = eqb n 4
only_four (accepted a) = true

four_bind : {A B : Type 0} (x : Answer A) (f : A → Answer B) → only_four x ≡ true → ((a : A) → only_four (f a) ≡ true) → only_four (x >>= f) ≡ true
unfolding only_four ◌>>=◌
four_bind (refused n) f e g = e
four_bind (accepted a) f e g = g a

four_then : {A : Type 0} (b : Bool) (r : Answer A) → only_four r ≡ true → only_four (unless b 4 >> r) ≡ true
unfolding only_four unless ◌>>◌ ◌>>=◌
four_then true r e = e
four_then false r e = refl

four_present : {A : Type 0} (o : Option A) → only_four (present o 4) ≡ true
unfolding only_four present
four_present none = refl
four_present (some a) = refl

four_taken : {A : Type 0} (a : A) → only_four (accepted a) ≡ true
unfolding only_four
four_taken a = refl

four_up_to : (q : ℕ) (s : List ℕ) → only_four (up_to q s) ≡ true
unfolding up_to
four_up_to q s = four_bind _ _ (four_present _) (λ t. four_bind _ _ (four_present _) (λ v. four_taken _))

four_quoted : (s : List ℕ) → only_four (quoted s) ≡ true
unfolding quoted
four_quoted [] = unfold only_four in refl
four_quoted (q ∷ s) = four_then _ _ (four_up_to q s)

four_spaced : (s : List ℕ) → only_four (spaced s) ≡ true
unfolding spaced attribute tag_name
four_spaced s =
    four_then _ _
    (four_bind _ _ (four_then _ _ (four_taken _)) (λ n. four_bind _ _ (four_present _) (λ t. four_bind _ _ (four_quoted (skip t)) (λ v. four_taken _))))

-- Fewer bytes are left behind an attribute, so the bound never stops the list.
spaced_shorter : (s : List ℕ) (a : Read Attr) → spaced s ≡ accepted a → length a.rest < length s
unfolding spaced
spaced_shorter s a e = let t = then_accepted _ 4 _ a e in let l = attribute_shorter (skip s) a t.1 in omega (arith, skip-length s)

listed_by-same : (s : List ℕ) (f g : List ℕ → Read (List Attr)) (x : Answer (Read Attr)) → spaced s ≡ x → ((t : List ℕ) → length t < length s → f t ≡ g t)
    → listed_by x s f ≡ listed_by x s g
unfolding listed_by
listed_by-same s f g (refused n) e h = refl
listed_by-same s f g (accepted a) e h = rw (h a.rest (spaced_shorter s a e))

listed_bound : (n k : ℕ) (s : List ℕ) → length s < n → length s < k → listed_in n s ≡ listed_in k s
unfolding listed_in
listed_bound zero k s g h = absurd (omega arith)
listed_bound (suc n) zero s g h = absurd (omega arith)
listed_bound (suc n) (suc k) s g h = listed_by-same s _ _ (spaced s) refl (λ t l. listed_bound n k t (omega arith) (omega arith))

listed_unroll : (s : List ℕ) → listed s ≡ listed_by (spaced s) s listed
unfolding listed listed_in
listed_unroll s = listed_by-same s _ _ (spaced s) refl (λ t l. listed_bound (length s) (suc (length t)) t l (omega arith))

pub listed_none : (s : List ℕ) (n : ℕ) → spaced s ≡ refused n → listed s ≡ read [] s
unfolding listed_by
listed_none s n e = listed_unroll s ∙ rw e

pub listed_some : (s : List ℕ) (a : Read Attr) → spaced s ≡ accepted a → listed s ≡ read (a.got ∷ (listed a.rest).got) (listed a.rest).rest
unfolding listed_by
listed_some s a e = listed_unroll s ∙ rw e

-- What a tag's end makes of the attributes before it.
unfoldable pub ended_by : List Attr → Option (Read Attributes) → Answer (Read Attributes)
ended_by l none = refused 4
ended_by l (some e) = accepted (read record { attrs = l; self = e.got.self } e.rest)

ended_front : (a : Attr) (l : List Attr) (o : Option (Read Attributes)) → (ended_by l o >>= λ r. accepted (attribute_in_front a r)) ≡ ended_by (a ∷ l) o
unfolding ended_by attribute_in_front ◌>>=◌
ended_front a l none = refl
ended_front a l (some e) = refl

-- The end itself has no attributes, and none stands where a tag ends.
end-self : (a b : Option (List ℕ)) (e : Read Attributes) → end_by a b ≡ some e → accepted e ≡ ended_by [] (some e)
unfolding end_by ended_by
end-self (some t) b e p = let z : read record { attrs = []; self = false } t ≡ e = cc in rw (← z)
end-self none (some t) e p = let z : read record { attrs = []; self = true } t ≡ e = cc in rw (← z)
end-self none none e p = let z : ◌≡◌ {A = ℕ} 0 1 = cc in absurd (omega arith)

end-first : (s : List ℕ) (e : Read Attributes) → tag_end s ≡ some e → first_is is_letter s ≡ false
unfolding tag_end end_by strip pick first_is is_letter
end-first [] e p = refl
end-first (c ∷ s) e p = go (eqb (ch ">") c) refl (eqb (ch "/") c) refl p
  where
    go : (b : Bool) → eqb (ch ">") c ≡ b → (d : Bool) → eqb (ch "/") c ≡ d
        → end_by (pick b (some s) none) (pick d (strip (bytes ">") s) none) ≡ some e → first_is is_letter (c ∷ s) ≡ false
    go true q d r f = rw (← eqb-true (ch ">") c q)
    go false q true r f = rw (← eqb-true (ch "/") c r)
    go false q false r f = let z : ◌≡◌ {A = ℕ} 0 1 = cc in absurd (omega arith)

end_unspaced : (s : List ℕ) → first_is is_letter (skip s) ≡ false → spaced s ≡ refused 4
unfolding spaced attribute tag_name
end_unspaced s e = go (first_is is_white s)
  where
    go : (b : Bool) → (unless b 4 >> attribute (skip s)) ≡ refused 4
    go true = rw e (unfold unless ◌>>◌ ◌>>=◌ in refl)
    go false = unfold unless ◌>>◌ ◌>>=◌ in refl

pub attributes-listed : (n : ℕ) (s : List ℕ) → length s < n → attributes n s ≡ ended_by (listed s).got (tag_end (skip (listed s).rest))
unfolding attributes ◌>>=◌
attributes-listed zero s h = absurd (omega arith)
attributes-listed (suc n) s h = go (λ t l. attributes-listed n t (omega arith)) (tag_end (skip s)) refl
  where
    more : ((t : List ℕ) → length t < length s → attributes n t ≡ ended_by (listed t).got (tag_end (skip (listed t).rest)))
        → tag_end (skip s) ≡ none → (x : Answer (Read Attr)) → spaced s ≡ x
        → (x >>= λ a. attributes n a.rest >>= λ r. accepted (attribute_in_front a.got r)) ≡ ended_by (listed s).got (tag_end (skip (listed s).rest))
    more ih p (refused k) e =
        let f : eqb k 4 ≡ true = unfold only_four in (rw e at (four_spaced s)) in
        rw (listed_none s k e, p, eqb-true k 4 f) (unfold ended_by ◌>>=◌ in refl)
    more ih p (accepted a) e =
        rw (listed_some s a e, ih a.rest (spaced_shorter s a e)) (ended_front a.got (listed a.rest).got (tag_end (skip (listed a.rest).rest)))

    go : ((t : List ℕ) → length t < length s → attributes n t ≡ ended_by (listed t).got (tag_end (skip (listed t).rest)))
        → (o : Option (Read Attributes)) → tag_end (skip s) ≡ o → attributes_by o s (λ t. attributes n t) ≡ ended_by (listed s).got (tag_end (skip (listed s).rest))
    go ih (some e) p =
        rw (listed_none s 4 (end_unspaced s (end-first (skip s) e p)), p) (unfold attributes_by tag_end in end-self _ _ e p)
    go ih none p = unfold attributes_by spaced in more ih p (spaced s) refl
