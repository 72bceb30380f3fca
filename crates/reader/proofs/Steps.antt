-- A step over one tag.
use mathlib.Core.Path.{◌≡◌, refl, sym, ◌∙◌}
use mathlib.Core.Bool.{Bool, true, false, false≢true}
use mathlib.Core.List.{List}
use mathlib.Core.Option.{Option, none, some}
use Rattle.std.specs.Prelude.{Option as Maybe, Some, None}
use Rattle.std.specs.Prelude as code
use mir.Val.{bool_byte}
use Prim.Native.Nat.{ℕ, suc, ◌+◌, ◌≤◌}
use native.Mathlib.Omega.{arith}
use lib.Dec.{eqb, lit≤}
use lib.ListN.{length, drop}
use Rattle.names.specs.Bytes.{bytes}
use Rattle.names.specs.Class.{is_white}
use Rattle.names.specs.code.Scanned.{Scanned}
use Rattle.store.specs.Answer.{Answer, refused, accepted, ◌>>=◌, ◌>>◌, unless, present}
use Rattle.reader.specs.Tag.{Read, read, Attributes, Tag, opens, closes, strip, skip, tag_name, none_twice, tag_end, opening_tag, closing_tag, tag_by, tag_behind, next_tag}
use Rattle.reader.specs.code.ElementNames.{row_here}
use Rattle.reader.specs.code.Places.{part, Behind, NameEnd, listed, end_means, EndWithin}
use Rattle.reader.specs.code.Found.{Once, Tagged, plain_tag}
use Rattle.reader.specs.declared.tag.TagEnd.{TagEnd}
use Rattle.reader.specs.declared.attributes.Listing.{Listing}
use Rattle.reader.specs.declared.cursor.TagRead.{TagRead}
use Rattle.reader.proofs.Listed.{ended_by, attributes-listed}
use Rattle.reader.proofs.Pieces.{name-yes, name-no}
use Rattle.reader.proofs.PiecePlaces.{behind_some, behind_no}

-- No tag; a closing tag.
tag_broken : (s : List ℕ) (level from at : ℕ) (o : Answer (Read Tag)) (t : TagRead) → at ≤ length s → t ≡ plain_tag 3 at at at → o ≡ refused 4 → Tagged s level from o t
tag_broken s level from at o t h e f =
    rw e
    record {
      broken = λ g. f;
      closing = λ g. absurd (omega arith);
      opening = λ g. absurd (omega arith);
      low = λ g. absurd (omega arith);
      named = omega arith;
      behind = omega arith;
      high = h;
      kinds = lit≤ tt;
    }

tag_closes : (s : List ℕ) (level from at n z : ℕ) (o : Answer (Read Tag)) (t : TagRead) → from ≤ at → at ≤ n → n ≤ z → z ≤ length s → t ≡ plain_tag 2 at n z
    → o ≡ accepted (read (closes (part s at n)) (drop z s)) → Tagged s level from o t
tag_closes s level from at n z o t g h k l e f =
    rw e
    record {
      broken = λ i. absurd (omega arith);
      closing = λ i. f;
      opening = λ i. absurd (omega arith);
      low = λ i. g;
      named = h;
      behind = k;
      high = l;
      kinds = lit≤ tt;
    }

-- No name, and so neither.
module _ (s : List ℕ) (level at : ℕ) (h : at ≤ length s) (p : NameEnd s at None (tag_name (drop at s))) (t : TagRead) (e : t ≡ plain_tag 3 at at at) where
  pub close_unnamed : Tagged s level at (closing_tag (drop at s)) t
  unfolding closing_tag ◌>>=◌
  close_unnamed = tag_broken s level at at _ t h e (rw (name-no s at _ p))

  pub open_unnamed : Tagged s level at (opening_tag (drop at s)) t
  unfolding opening_tag ◌>>=◌
  open_unnamed = tag_broken s level at at _ t h e (rw (name-no s at _ p))

module _ (s : List ℕ) (level at n : ℕ) (p : NameEnd s at (Some n) (tag_name (drop at s))) where
  module _ (a : ℕ) (w : Scanned is_white s n a) where
    pub close_open : Behind s a None (strip (bytes ">") (drop a s)) → (t : TagRead) → t ≡ plain_tag 3 at at at → Tagged s level at (closing_tag (drop at s)) t
    unfolding closing_tag skip present ◌>>=◌
    close_open q t e = tag_broken s level at at _ t (let j = p.within in omega arith) e (rw (name-yes s at _ n p, ← w.left, behind_no s a _ q))

    pub close_here : (z : ℕ) → Behind s a (Some z) (strip (bytes ">") (drop a s)) → (t : TagRead) → t ≡ plain_tag 2 at n z → Tagged s level at (closing_tag (drop at s)) t
    unfolding closing_tag skip present ◌>>=◌
    close_here z q t e =
        let i = w.low in
        let j = p.within in
        let k = q.within in
        tag_closes s level at at n z _ t (omega arith) (omega arith) (omega arith) k.1 e (rw (name-yes s at _ n p, ← w.left, behind_some s a _ z q))

  finish : Read Attributes → Answer (Read Tag)
  finish r = unless (none_twice r.got.attrs) 4 >> accepted (read (opens (part s at n) r.got.attrs r.got.self) r.rest)

  opening-is : opening_tag (drop at s) ≡ (ended_by (listed (drop n s)).got (tag_end (skip (listed (drop n s)).rest)) >>= finish)
  unfolding opening_tag ◌>>=◌ finish
  opening-is = rw (name-yes s at _ n p, attributes-listed (suc (length (drop n s))) (drop n s) (omega arith))

  pub open_twice : (element : ℕ) → Once s n element None → (t : TagRead) → t ≡ plain_tag 3 at at at → Tagged s level at (opening_tag (drop at s)) t
  unfolding finish
  open_twice element w t e = tag_broken s level at at _ t (let j = p.within in omega arith) e (opening-is ∙ go (tag_end (skip (listed (drop n s)).rest)))
    where
      twice : none_twice (listed (drop n s)).got ≡ false
      twice = sym w.told

      go : (o : Option (Read Attributes)) → (ended_by (listed (drop n s)).got o >>= finish) ≡ refused 4
      go none = unfold ended_by ◌>>=◌ in refl
      go (some x) = unfold ended_by ◌>>=◌ in rw twice (unfold unless ◌>>◌ ◌>>=◌ in refl)

  module _ (element : ℕ) (row : element ≡ row_here level (part s at n)) (l : Listing) (w : Once s n element (Some l)) where
    module _ (r : Maybe TagEnd) (is : end_means s r ≡ tag_end (skip (drop l.end s))) where
      end_is : tag_end (skip (listed (drop n s)).rest) ≡ end_means s r
      end_is = rw (← w.whole.left) (sym is)

      pub open_unended : (t : TagRead) → r ≡ None → t ≡ plain_tag 3 at at at → Tagged s level at (opening_tag (drop at s)) t
      unfolding ended_by ◌>>=◌
      open_unended t g e = tag_broken s level at at _ t (let j = p.within in omega arith) e (opening-is ∙ rw (end_is, g))

      once : none_twice (listed (drop n s)).got ≡ true
      once = sym w.told

      -- A tag that opens, and the place behind it; one of kind 1 closes at once.
      module _ (v : EndWithin l.end (length s) r) (end : TagEnd) (g : r ≡ Some end) where
        inside : (l.end ≤ end.next) × (end.next ≤ length s)
        inside = rw g at v

        kind_is : (b : Bool) → (bool_byte b ≤ 1) × (b ≡ eqb (bool_byte b) 1)
        kind_is true = (lit≤ tt, refl)
        kind_is false = (lit≤ tt, refl)

        pub open_here : (kind : ℕ) → kind ≡ bool_byte end.whole
            → Tagged s level at (opening_tag (drop at s)) record { name = at; name_end = n; next = record { at = end.next }; element = element; found = l.found; kind = kind }
        unfolding ended_by ◌>>=◌ ◌>>◌ unless finish
        open_here kind c =
            let low = w.within in
            let i = inside in
            let j = p.within in
            let k = kind_is end.whole in
            let few : kind ≤ 1 = rw c k.0 in
            let told : end.whole ≡ eqb kind 1 = rw c k.1 in
            record {
              broken = λ q. absurd (omega arith);
              closing = λ q. absurd (omega arith);
              opening = λ q. record { is = opening-is ∙ rw (end_is, g, once, told); row = row; holds = w.whole.holds; known = w.whole.known };
              low = λ q. omega arith;
              named = omega arith;
              behind = omega arith;
              high = omega arith;
              kinds = omega arith;
            }

pub ruleset close-cases = (close_open, close_here)

-- The text before a tag.
tag_later : (s : List ℕ) (level from at : ℕ) (o q : Answer (Read Tag)) (t : TagRead) → Tagged s level at o t → from ≤ at → q ≡ o → Tagged s level from q t
tag_later s level from at o q t w h e =
    rw e
    record {
      broken = w.broken;
      closing = w.closing;
      opening = w.opening;
      low = λ g. let k = w.low g in omega arith;
      named = w.named;
      behind = w.behind;
      high = w.high;
      kinds = w.kinds;
    }

-- Behind its `<`, where a name stands or none.
module _ (s : List ℕ) (level b : ℕ) (t : TagRead) where
  open_on : Behind s b None (strip (bytes "/") (drop b s)) → Tagged s level b (opening_tag (drop b s)) t → Tagged s level b (tag_behind (drop b s)) t
  unfolding tag_behind tag_by
  open_on q v = tag_later s level b b (opening_tag (drop b s)) _ t v (omega arith) (rw (behind_no s b _ q))

  close_on : (e : ℕ) → Behind s b (Some e) (strip (bytes "/") (drop b s)) → Tagged s level e (closing_tag (drop e s)) t → Tagged s level b (tag_behind (drop b s)) t
  unfolding tag_behind tag_by
  close_on e q v = tag_later s level b e (closing_tag (drop e s)) _ t v (let k = q.within in omega arith) (rw (behind_some s b _ e q))

  -- By the place behind a `/`, or else of the name.
  pub behind_open : (r : Maybe ℕ) → Behind s b r (strip (bytes "/") (drop b s)) → code.is_some r ≡ false → (e : ℕ) → e ≡ code.unwrap_or r b
      → Tagged s level e (opening_tag (drop e s)) t → Tagged s level b (tag_behind (drop b s)) t
  behind_open None q g e f v = open_on q (rw f at v)
  behind_open (Some n) q g e f v = absurd (false≢true (sym g))

  pub behind_close : (r : Maybe ℕ) → Behind s b r (strip (bytes "/") (drop b s)) → code.is_some r ≡ true → (e : ℕ) → e ≡ code.unwrap_or r b
      → Tagged s level e (closing_tag (drop e s)) t → Tagged s level b (tag_behind (drop b s)) t
  behind_close None q g e f v = absurd (false≢true g)
  behind_close (Some n) q g e f v = close_on n q (rw f at v)

  pub behind_none : b ≤ length s → (r : Maybe ℕ) → Behind s b r (strip (bytes "/") (drop b s)) → (e : ℕ) → e ≡ code.unwrap_or r b
      → NameEnd s e None (tag_name (drop e s)) → t ≡ plain_tag 3 e e e → Tagged s level b (tag_behind (drop b s)) t
  behind_none h None q e f p g = open_on q (open_unnamed s level b h (rw f at p) t (rw f at g))
  behind_none h (Some n) q e f p g = close_on n q (close_unnamed s level n q.within.1 (rw f at p) t (rw f at g))

-- and from the text before it on.
module _ (s : List ℕ) (level at a : ℕ) (w : Scanned is_white s at a) (t : TagRead) where
  pub step_broken : Behind s a None (strip (bytes "<") (drop a s)) → t ≡ plain_tag 3 at at at → Tagged s level (at + 1) (next_tag (drop at s)) t
  unfolding next_tag skip present ◌>>=◌
  step_broken p e = tag_broken s level (at + 1) at _ t (let k = w.high in let l = w.low in omega arith) e (rw (← w.left, behind_no s a _ p))

  pub step_on : (b : ℕ) → Behind s a (Some b) (strip (bytes "<") (drop a s)) → Tagged s level b (tag_behind (drop b s)) t → Tagged s level (at + 1) (next_tag (drop at s)) t
  unfolding next_tag skip present ◌>>=◌
  step_on b p v =
      let l = w.low in
      let k = p.within in
      tag_later s level (at + 1) b (tag_behind (drop b s)) _ t v (omega arith) (rw (← w.left, behind_some s a _ b p))

pub ruleset step-cases = (step_broken, step_on)
