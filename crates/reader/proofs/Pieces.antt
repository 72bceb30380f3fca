-- The pieces of a tag at a place: what the code's tests show of the definitions.
use mathlib.Core.Path.{◌≡◌, refl, sym, ap, ◌∙◌}
use mathlib.Core.Bool.{Bool, true, false}
use mathlib.Core.List.{List, [], ◌∷◌}
use mathlib.Core.Option.{Option, none, some}
use Rattle.std.specs.Prelude.{Option as Maybe, Some, None}
use Prim.Native.Nat.{ℕ, ◌+◌, ◌-◌, ◌≤◌, ◌<◌}
use native.Mathlib.Omega.{arith}
use lib.ListN.{length, get_or, drop}
use Rattle.names.specs.Bytes.{bytes, ch}
use Rattle.names.specs.Class.{is_white, is_letter}
use Rattle.names.specs.code.Scanned.{Scanned}
use Rattle.names.specs.Text.{decode, in_value}
use Rattle.names.proofs.ScanLaws.{scan_moves}
use Rattle.names.proofs.Walk.{drop_here, drop_past}
use Rattle.store.specs.Answer.{Answer, refused, accepted, ◌>>=◌, ◌>>◌, unless, present}
use Rattle.store.proofs.Calls.Answers.{accepted-same, then_accepted}
use Rattle.reader.specs.Tag.{Read, read, attr, strip, first_is, skip, is_tag_byte, tag_name, is_quote, up_to, quoted, attribute, end_by, tag_end}
use Rattle.reader.specs.Element.{or_else}
use Rattle.reader.specs.code.Places.{part, is_some, decoded, rest_of, Behind, name_to, NameEnd, skipped, equals, value_to, ValueEnd, closed_at, ValueTo, spaced, name_at, Inside}
use Rattle.reader.proofs.PiecePlaces.{behind_some, behind_no, behind_one, strip_none, strip-on, scan_first, scan_still}
use Rattle.reader.proofs.TagBytes.{letter_tag}

-- Something that is there.
pub some_is : {A : Type 0} (a : A) (o : Option A) → is_some o ≡ true → o ≡ some (or_else a o)
unfolding is_some or_else
some_is a none e = cc
some_is a (some b) e = refl

pub none_is : {A : Type 0} (o : Option A) → is_some o ≡ false → o ≡ none
unfolding is_some
none_is none e = refl
none_is (some b) e = cc

-- Names.
module _ (s : List ℕ) (at : ℕ) where
  module _ (o : Answer (Read (List ℕ))) where
    pub name-yes : (r : ℕ) → NameEnd s at (Some r) o → o ≡ accepted (read (part s at r) (drop r s))
    unfolding name_to
    name-yes r p = sym p.is

    pub name-no : NameEnd s at None o → o ≡ refused 4
    unfolding name_to
    name-no p = sym p.is

  no_name : (o : Answer (Read (List ℕ))) → refused 4 ≡ o → NameEnd s at None o
  unfolding name_to
  no_name o e = record { is = e; within = tt }

  pub name_past : length s ≤ at → NameEnd s at None (tag_name (drop at s))
  unfolding tag_name first_is unless ◌>>◌ ◌>>=◌
  name_past h = no_name (tag_name (drop at s)) (rw (drop_past s at h))

  pub name-other : (t : Bool) → t ≡ is_letter (get_or s at 0) → t ≡ false → at < length s → NameEnd s at None (tag_name (drop at s))
  unfolding tag_name first_is unless ◌>>◌ ◌>>=◌
  name-other t e f h = no_name (tag_name (drop at s)) (rw (drop_here s at h, ← e, f))

  pub name_here : (t : Bool) (r : ℕ) → t ≡ is_letter (get_or s at 0) → t ≡ true → at < length s → Scanned is_tag_byte s at r → NameEnd s at (Some r) (tag_name (drop at s))
  unfolding tag_name name_to first_is unless ◌>>◌ ◌>>=◌
  name_here t r e f h w =
      let l : at < r = scan_moves is_tag_byte s at r w h (letter_tag (get_or s at 0) (sym e ∙ f)) in
      let first : first_is is_letter (drop at s) ≡ true = rw (drop_here s at h) (sym e ∙ f) in
      record { is = rw (w.passed, w.left, first); within = (l, w.high) }

-- It reaches as far as its bytes do.
name-run : (s : List ℕ) (at r : ℕ) → NameEnd s at (Some r) (tag_name (drop at s)) → name_at s at ≡ part s at r
unfolding tag_name name_at
name-run s at r p = ap (λ (n : Read (List ℕ)). n.got) (accepted-same (then_accepted _ 4 _ _ (name-yes s at _ r p)).1)

pub ruleset name-cases = (name_past, name-other, name_here)

-- `=`.
module _ (s : List ℕ) (at a : ℕ) (w : Scanned is_white s at a) where
  pub equals-no : Behind s a None (strip (bytes "=") (drop a s)) → Behind s at None (equals (drop at s))
  unfolding equals skip skipped rest_of
  equals-no p = record { is = rw (← w.left, behind_no s a _ p); within = tt }

  pub equals_here : (b : ℕ) → Behind s a (Some b) (strip (bytes "=") (drop a s)) → (r : ℕ) → Scanned is_white s b r → Behind s at (Some r) (equals (drop at s))
  unfolding equals skip skipped rest_of
  equals_here b p r v =
      record { is = rw (← w.left, behind_some s a _ b p, ← v.left); within = (let k = w.low in let l = v.low in let i = p.within in omega arith, v.high) }

pub ruleset equals-cases = (equals-no, equals_here)

equals_bind : {A : Type 0} (l : List ℕ) (f : List ℕ → Answer A) → (present (strip (bytes "=") (skip l)) 4 >>= λ t. f (skip t)) ≡ (present (equals l) 4 >>= f)
unfolding equals
equals_bind l f = go (strip (bytes "=") (skip l))
  where
    go : (o : Option (List ℕ)) → (present o 4 >>= λ t. f (skip t)) ≡ (present (skipped o) 4 >>= f)
    go none = unfold present skipped ◌>>=◌ in refl
    go (some t) = unfold present skipped ◌>>=◌ in refl

-- Values.
module _ (q : ℕ) (s : List ℕ) (at e : ℕ) (w : Scanned (in_value q) s at e) where
  at-end : up_to q (drop at s) ≡ (present (strip (q ∷ []) (drop e s)) 4 >>= λ t. present (decode (part s at e)) 4 >>= λ v. accepted (read v t))
  unfolding up_to
  at-end = rw (← w.left, ← w.passed)

  to_none : refused 4 ≡ up_to q (drop at s) → ValueTo q s at None
  unfolding closed_at
  to_none g = record { is = g; within = tt; fine = tt }

  pub to_open : Behind s e None (strip (q ∷ []) (drop e s)) → ValueTo q s at None
  unfolding present ◌>>=◌
  to_open p = to_none (sym (at-end ∙ rw (behind_no s e _ p)))

  module _ (f : ℕ) (p : Behind s e (Some f) (strip (q ∷ []) (drop e s))) (b : Bool) (x : b ≡ is_some (decode (part s at e))) where
    pub to_stray : b ≡ false → ValueTo q s at None
    unfolding present ◌>>=◌
    to_stray y = to_none (sym (at-end ∙ rw (behind_some s e _ f p, none_is (decode (part s at e)) (sym x ∙ y))))

    pub to_here : b ≡ true → ValueTo q s at (Some e)
    unfolding present ◌>>=◌ closed_at or_else
    to_here y =
        let i = p.within in
        let z = some_is [] (decode (part s at e)) (sym x ∙ y) in
        record {
          is = sym (at-end ∙ rw (behind_some s e _ f p, z, behind_one s e f q p));
          within = (w.low, omega arith);
          fine = sym x ∙ y;
        }

module _ (s : List ℕ) (at : ℕ) where
  module _ (o : Answer (Read (List ℕ))) where
    pub value-yes : (r : ℕ) → ValueEnd s at (Some r) o → o ≡ accepted (read (decoded s (at + 1) (r - 1)) (drop r s))
    unfolding value_to
    value-yes r p = sym p.is

    pub value-no : ValueEnd s at None o → o ≡ refused 4
    unfolding value_to
    value-no p = sym p.is

  no_value : (o : Answer (Read (List ℕ))) → refused 4 ≡ o → ValueEnd s at None o
  unfolding value_to
  no_value o e = record { is = e; within = tt; fine = tt }

  pub value_past : length s ≤ at → ValueEnd s at None (quoted (drop at s))
  unfolding quoted
  value_past h = no_value (quoted (drop at s)) (rw (drop_past s at h))

  pub value-other : (t : Bool) → t ≡ is_quote (get_or s at 0) → t ≡ false → at < length s → ValueEnd s at None (quoted (drop at s))
  unfolding quoted unless ◌>>◌ ◌>>=◌
  value-other t e f h = no_value (quoted (drop at s)) (rw (drop_here s at h, ← e, f))

  module _ (t : Bool) (u : t ≡ is_quote (get_or s at 0)) (v : t ≡ true) (h : at < length s) where
    at_quote : (r : Maybe ℕ) → ValueTo (get_or s at 0) s (at + 1) r → quoted (drop at s) ≡ closed_at s (at + 1) r
    unfolding quoted unless ◌>>◌ ◌>>=◌
    at_quote r w = rw (drop_here s at h, ← u, v) (sym w.is)

    pub value_open : ValueTo (get_or s at 0) s (at + 1) None → ValueEnd s at None (quoted (drop at s))
    unfolding closed_at
    value_open w = no_value (quoted (drop at s)) (sym (at_quote None w))

    pub value_here : (e : ℕ) → ValueTo (get_or s at 0) s (at + 1) (Some e) → ValueEnd s at (Some (e + 1)) (quoted (drop at s))
    unfolding closed_at value_to
    value_here e w =
        let l = w.within in
        let n : e + 1 - 1 ≡ e = omega arith in
        record {
          is = rw n (sym (at_quote (Some e) w));
          within = (omega arith, omega arith);
          fine = rw n w.fine;
        }

pub ruleset value-cases = (value_past, value-other)

-- One attribute with the white space before it.
module _ (s : List ℕ) (at a : ℕ) (w : Scanned is_white s at a) where
  pub attr_unspaced : a ≤ at → refused 4 ≡ spaced (drop at s)
  unfolding spaced unless ◌>>◌ ◌>>=◌
  attr_unspaced h = rw (scan_still is_white s at a w h)

  module _ (h : at < a) where
    at_name : spaced (drop at s) ≡ attribute (drop a s)
    unfolding spaced skip unless ◌>>◌ ◌>>=◌
    at_name = rw (scan_first is_white s at a w h, ← w.left)

    pub attr_unnamed : NameEnd s a None (tag_name (drop a s)) → refused 4 ≡ spaced (drop at s)
    unfolding attribute ◌>>=◌
    attr_unnamed n = sym (at_name ∙ rw (name-no s a _ n))

    module _ (b : ℕ) (n : NameEnd s a (Some b) (tag_name (drop a s))) where
      at-equals : spaced (drop at s) ≡ (present (equals (drop b s)) 4 >>= λ t. quoted t >>= λ v. accepted (read (attr (part s a b) v.got) v.rest))
      unfolding attribute ◌>>=◌
      at-equals = at_name ∙ rw (name-yes s a _ b n) (equals_bind (drop b s) (λ t. quoted t >>= λ v. accepted (read (attr (part s a b) v.got) v.rest)))

      pub attr_unequal : Behind s b None (equals (drop b s)) → refused 4 ≡ spaced (drop at s)
      unfolding present rest_of ◌>>=◌
      attr_unequal e = sym (at-equals ∙ rw (← e.is))

      module _ (q : ℕ) (e : Behind s b (Some q) (equals (drop b s))) where
        pub attr_unquoted : ValueEnd s q None (quoted (drop q s)) → refused 4 ≡ spaced (drop at s)
        unfolding present rest_of ◌>>=◌
        attr_unquoted v = sym (at-equals ∙ rw (← e.is, value-no s q _ v))

        module _ (z : ℕ) (v : ValueEnd s q (Some z) (quoted (drop q s))) where
          pub attr_one : accepted (read (attr (part s a b) (decoded s (q + 1) (z - 1))) (drop z s)) ≡ spaced (drop at s)
          unfolding present rest_of ◌>>=◌
          attr_one = sym (at-equals ∙ rw (← e.is, value-yes s q _ z v))

          pub attr-inside : Inside s at record { name = a; name_end = b; value = q + 1; value_end = z - 1; next = z }
          attr-inside =
              let i = n.within in
              let j = e.within in
              let k = v.within in
              record { low = h; named = i.0; equal = omega arith; valued = omega arith; behind = omega arith; high = k.1; fine = v.fine; run = name-run s a b n }

-- `>` or `/>`.
module _ (s : List ℕ) (at a : ℕ) (w : Scanned is_white s at a) where
  pub end_open : (b : ℕ) → Behind s a (Some b) (strip (bytes ">") (drop a s)) → some (read record { attrs = []; self = false } (drop b s)) ≡ tag_end (skip (drop at s))
  unfolding tag_end skip end_by
  end_open b p = rw (← w.left, behind_some s a _ b p)

  module _ (p : Behind s a None (strip (bytes ">") (drop a s))) where
    pub end_none : Behind s a None (strip (bytes "/") (drop a s)) → none ≡ tag_end (skip (drop at s))
    unfolding tag_end skip end_by
    end_none q = rw (← w.left, behind_no s a _ p, strip_none (ch "/") (bytes ">") (drop a s) (behind_no s a _ q))

    module _ (d : ℕ) (q : Behind s a (Some d) (strip (bytes "/") (drop a s))) where
      pub end_half : Behind s d None (strip (bytes ">") (drop d s)) → none ≡ tag_end (skip (drop at s))
      unfolding tag_end skip end_by
      end_half r = rw (← w.left, behind_no s a _ p, strip-on (ch "/") (bytes ">") (drop a s) (drop d s) (behind_some s a _ d q), behind_no s d _ r)

      pub end_whole : (e : ℕ) → Behind s d (Some e) (strip (bytes ">") (drop d s)) → some (read record { attrs = []; self = true } (drop e s)) ≡ tag_end (skip (drop at s))
      unfolding tag_end skip end_by
      end_whole e r = rw (← w.left, behind_no s a _ p, strip-on (ch "/") (bytes ">") (drop a s) (drop d s) (behind_some s a _ d q), behind_some s d _ e r)
