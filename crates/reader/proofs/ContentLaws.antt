-- What a typed item holds up to its closing tag, by places in the file, and its value in a buffer.
use mathlib.Core.Path.{◌≡◌, refl, sym, ◌∙◌, ap}
use mathlib.Core.Bool.{Bool, true, false, false≢true}
use mathlib.Core.List.{List, [], ◌∷◌, ◌++◌}
use mathlib.Core.Option.{Option, none, some}
use Prim.Native.Nat.{ℕ, ◌+◌, ◌-◌, ◌*◌, ◌≤◌, ◌<◌}
use native.Mathlib.Decide.{ℕ_discrete}
use native.Mathlib.Omega.{arith}
use lib.Dec.{eqb, leb, lit≤}
use lib.ListN.{length, take, drop, length-drop}
use lib.Seq.{drop-drop, length-take-le}
use borrow.Author.Tests.{ne_eqb, leb-false}
use Rattle.std.specs.Prelude.{Option as Optional, Some, None, Result, Ok, Err}
use Rattle.std.specs.Result.{result_ok}
use Rattle.names.specs.Bytes.{ch, all}
use Rattle.names.specs.Class.{is_white}
use Rattle.names.specs.Name.{value_most}
use Rattle.names.specs.Scan.{after}
use Rattle.names.specs.Order.{begins, same}
use Rattle.names.specs.Pick.{pick}
use Rattle.names.specs.Text.{decode_from, decode}
use Rattle.names.specs.code.Decoding.{holds, too_long, broken, fitted, decoded_in, DecodesWithin}
use Rattle.names.specs.declared.text.DecodeError.{DecodeError}
use Rattle.names.specs.declared.text.DecodeError.TheVariants.{TooLong, Broken}
use Rattle.std.specs.Prelude.{Result, Ok, Err}
use Rattle.names.proofs.Ordered.{same_refl}
use Rattle.names.proofs.Stretch.{begins_reaches}
use Rattle.store.specs.Answer.{Answer, refused, accepted, ◌>>=◌, ◌>>◌, unless, present}
use Rattle.reader.specs.Tag.{Read, read, Tag, strip, skip, closing_tag, tag_by, tag_behind, next_tag, closes_by, text_body, content}
use Rattle.reader.specs.Element.{element_of, or_else}
use Rattle.reader.specs.code.Places.{part, is_some, Behind}
use Rattle.reader.specs.code.Found.{Tagged}
use Rattle.reader.specs.code.Bodies.{body_text, BodyStretch, AsWritten, body_means, Marked, BodyRead, closed, PlainlyClosed, ClosingRead, ContentRead, ValueFront, ValueHeld}
use Rattle.reader.specs.code.Values.{stands_alone}
use Rattle.reader.specs.declared.body.Body.{Body}
use Rattle.reader.specs.declared.cursor.Cursor.{Cursor}
use Rattle.store.specs.declared.answer.Refusal.{Refusal}
use Rattle.store.specs.declared.answer.Refusal.TheVariants.{WrittenForm, Element}
use Rattle.reader.specs.declared.body.Content.{Content}
use Rattle.reader.specs.declared.cursor.TagRead.{TagRead}
use Rattle.reader.proofs.ElementPlaced.{named-plain}
use Rattle.reader.proofs.ExpectedLaws.{strip-begins, strip_some}
use Rattle.reader.proofs.PiecePlaces.{behind_some}
use Rattle.reader.proofs.PlainNames.{tag_name-at, ends_62}
use Rattle.reader.proofs.FormLaws.{alone_decoded, decoded-size, decoded-inside}
use Rattle.reader.proofs.Shorter.{bind_same}

-- The tag behind a `<`.
marked_tag : (s : List ℕ) (at : ℕ) → Marked s at → next_tag (drop (at - 1) s) ≡ tag_behind (drop at s)
marked_tag s at m = rw m.is (behind (drop at s))
  where
    behind : (r : List ℕ) → next_tag (ch "<" ∷ r) ≡ tag_behind r
    behind r = unfold next_tag skip after strip is_white pick present ◌>>=◌ in refl

-- The tag that follows a body.
module _ (s : List ℕ) (level at : ℕ) (n : List ℕ) (c : TagRead) (m : Marked s at) (v : Tagged s level (at - 1 + 1) (next_tag (drop (at - 1) s)) c) where
  w : Tagged s level at (tag_behind (drop at s)) c
  w = let l = m.low in let z : at - 1 + 1 ≡ at = omega arith in rw (← marked_tag s at m) (rw z at v)

  pub closing-broken : c.kind ≡ 3 → ClosingRead s at (closed n (drop at s)) (Err WrittenForm)
  unfolding closed ◌>>=◌
  closing-broken e = record { is = rw (w.broken e); places = tt }

  pub closing_child : c.kind < 2 → ClosingRead s at (closed n (drop at s)) (Err Element)
  unfolding closed closes_by ◌>>=◌
  closing_child l = record { is = rw (w.opening l).is; places = tt }

  module _ (whole : c.kind ≡ 3 → ⊥) (k : 2 ≤ c.kind) (t : Bool) (e : t ≡ same (part s c.name c.name_end) n) where
    is-closing : c.kind ≡ 2
    is-closing = let l = w.kinds in elim (ℕ_discrete c.kind 3) [ yes q ↦ absurd (whole q) | no q ↦ omega arith ]

    by_name : closed n (drop at s) ≡ (unless t 4 >> accepted (drop c.next.at s))
    unfolding closed closes_by ◌>>=◌
    by_name = rw (w.closing is-closing, ← e)

    pub closing-other : t ≡ false → ClosingRead s at (closed n (drop at s)) (Err WrittenForm)
    unfolding unless ◌>>◌ ◌>>=◌
    closing-other f = record { is = sym (by_name ∙ rw f); places = tt }

    pub closing_own : t ≡ true → ClosingRead s at (closed n (drop at s)) (Ok c.next)
    unfolding unless ◌>>◌ ◌>>=◌
    closing_own f =
        let a = w.low (omega arith) in
        let b = w.named in
        let d = w.behind in
        record { is = sym (by_name ∙ rw f); places = (omega arith, w.high) }

-- The same tag by its text: the place behind `/`, the name and `>`.
module _ (s : List ℕ) (at : ℕ) (n : List ℕ) where
  pub plainly_not : PlainlyClosed s at n None
  plainly_not = record { is = tt; within = tt }

  module _ (x : ℕ) (p : Behind s at (Some x) (strip (ch "/" ∷ []) (drop at s))) (t : Bool) (e : t ≡ begins eqb n (drop x s)) (f : t ≡ true) where
    pub plainly_within : x + length n ≤ length s
    plainly_within =
        let long = begins_reaches eqb n (drop x s) (sym e ∙ f) in
        let size = length-drop x s in
        let high = p.within in
        omega arith

    pub plainly_here : (r : Optional ℕ) → Behind s (x + length n) r (strip (ch ">" ∷ []) (drop (x + length n) s)) → PlainlyClosed s at n r
    plainly_here None q = plainly_not
    plainly_here (Some z) q =
        let named : strip n (drop x s) ≡ some (drop (x + length n) s) = strip-begins n (drop x s) ∙ unfold pick in (rw (← e, f, drop-drop)) in
        let a : drop at s ≡ ch "/" ∷ drop x s = strip_some _ _ _ (behind_some s at _ x p) in
        let b : drop x s ≡ n ++ drop (x + length n) s = strip_some _ _ _ named in
        let c : drop (x + length n) s ≡ ch ">" ∷ drop z s = strip_some _ _ _ (behind_some s (x + length n) _ z q) in
        let i = p.within in
        let j = q.within in
        record { is = a ∙ rw (b, c); within = (omega arith, j.1) }

  pub closing-plain : (q : ℕ) → is_some (element_of n) ≡ true → PlainlyClosed s at n (Some q) → ClosingRead s at (closed n (drop at s)) (Ok record { at = q })
  unfolding closed tag_behind tag_by closing_tag closes_by strip skip after is_white pick present unless ◌>>◌ ◌>>=◌
  closing-plain q h w =
      let i = w.within in
      record {
        is = sym (rw (w.is, tag_name-at n (ch ">") (drop q s) (named-plain n h) ends_62, same_refl n));
        places = (omega arith, i.1);
      }

-- The whole.
nothing-held : (s : List ℕ) (at : ℕ) → at ≤ length s → BodyStretch s at at 0
nothing-held s at h =
    let z : at - at ≡ 0 = omega arith in
    record { order = omega arith; inside = h; fine = λ g. rw z (unfold decode decode_from is_some in refl); plain = λ g. absurd (omega arith) }

module _ (s : List ℕ) (at : ℕ) (n : List ℕ) where
  pub content-broken : (k : Refusal) → BodyRead s at (text_body (drop at s)) (Err k) → ContentRead s at (content false n (drop at s)) (Err k)
  unfolding content ◌>>=◌
  content-broken k w = record { is = rw (← w.is); places = tt }

  module _ (b : Body) (w : BodyRead s at (text_body (drop at s)) (Ok b)) where
    on-body : Answer (Read (List ℕ)) → Answer (Read (List ℕ))
    on-body x = x >>= λ y. closed n y.rest >>= λ r. accepted (read y.got r)

    by_body : content false n (drop at s) ≡ on-body (accepted (body_means s b))
    unfolding content on-body closed
    by_body = rw w.is (bind_same (text_body (drop at s)) _ _ (λ y q. nested (tag_behind y.rest) y))
      where
        nested : (x : Answer (Read Tag)) (y : Read (List ℕ)) → (x >>= λ t. closes_by n t.got t.rest >>= λ r. accepted (read y.got r))
            ≡ ((x >>= λ t. closes_by n t.got t.rest) >>= λ r. accepted (read y.got r))
        nested (refused k) y = unfold ◌>>=◌ in refl
        nested (accepted t) y = unfold ◌>>=◌ in refl

    pub body-inside : b.next ≤ length s
    body-inside = w.places.high

    pub content-marked : Marked s b.next
    content-marked = w.places.marked

    pub content_unclosed : (k : Refusal) → ClosingRead s b.next (closed n (drop b.next s)) (Err k) → ContentRead s at (content false n (drop at s)) (Err k)
    unfolding on-body ◌>>=◌
    content_unclosed k v = record { is = sym (by_body ∙ rw (← v.is)); places = tt }

    pub content_here : (c : Cursor) → ClosingRead s b.next (closed n (drop b.next s)) (Ok c)
        → ContentRead s at (content false n (drop at s)) (Ok record { start = b.start; end = b.end; next = c; kind = b.kind })
    unfolding on-body ◌>>=◌
    content_here c v =
        let behind = w.places.behind in
        let low = v.places.0 in
        record {
          is = sym (by_body ∙ rw (← v.is));
          places = record { stretch = w.places.stretch; low = w.places.low; behind = omega arith; high = v.places.1; kinds = w.places.kinds };
        }

  -- By the kind of the opening tag.
  module _ (kind : ℕ) where
    pub content-self : (c : Content) → kind ≡ 1 → at ≤ length s → c ≡ record { start = at; end = at; next = record { at = at }; kind = 0 }
        → ContentRead s at (content (eqb kind 1) n (drop at s)) (Ok c)
    unfolding pick content body_text or_else decode decode_from
    content-self c e h f =
        let z : at - at ≡ 0 = omega arith in
        rw f
        record {
          is = rw (e, z);
          places = record { stretch = nothing-held s at h; low = omega arith; behind = omega arith; high = h; kinds = lit≤ tt };
        }

    pub content_open : (r : Result Content Refusal) → (kind ≡ 1 → ⊥) → ContentRead s at (content false n (drop at s)) r → ContentRead s at (content (eqb kind 1) n (drop at s)) r
    content_open r e w = rw (ne_eqb kind 1 e) w

-- A value in the buffer.
-- What can be decoded is a text.
some_text : (v : List ℕ) → is_some (decode v) ≡ true → (u : List ℕ) × (decode v ≡ some u)
unfolding is_some
some_text v e = go (decode v) refl e
  where
    go : (o : Option (List ℕ)) → decode v ≡ o → is_some o ≡ true → (u : List ℕ) × (decode v ≡ some u)
    go none p e = absurd (false≢true e)
    go (some u) p e = (u, p)

module _ (v out : List ℕ) (fine : is_some (decode v) ≡ true) where
  pub decode-long : 6 * value_most < length v → ValueHeld (or_else [] (decode v)) out None
  unfolding or_else
  decode-long h =
      let u = some_text v fine in
      let k = decoded-size 0 v u.0 (omega arith) (unfold decode in u.1) in
      rw u.1 (omega arith)

  module _ (d : List ℕ) (size : length d ≡ value_most) (r : Result ℕ DecodeError) (made : decoded_in out r ≡ fitted (length d) (decode v)) where
    made_by_lem : (u : List ℕ) → decode v ≡ some u → decoded_in out r ≡ pick (leb (length u) (length d)) (holds u) too_long
    unfolding fitted
    made_by_lem u e = made ∙ rw e

    decode-held : DecodesWithin (length d) r → length out ≡ length d → (n : ℕ) → r ≡ Ok n → ValueHeld (or_else [] (decode v)) out (Some n)
    unfolding or_else
    decode-held inside same n q =
        let u = some_text v fine in
        let h = decoded-inside (length d) n r inside q in
        let l = length-take-le n out (omega arith) in
        let t = go u.0 (leb (length u.0) (length d)) (rw q at (made_by_lem u.0 u.1)) in
        let k : length (take n out) ≡ length u.0 = ap length t in
        rw u.1 record { few = omega arith; count = omega arith; text = t }
      where
        go : (u : List ℕ) (b : Bool) → holds (take n out) ≡ pick b (holds u) too_long → take n out ≡ u
        go u true e = unfold pick in cc
        go u false e = let z : ◌≡◌ {A = ℕ} 0 1 = unfold pick in cc in absurd (omega arith)

    decode_over : r ≡ Err TooLong → ValueHeld (or_else [] (decode v)) out None
    unfolding or_else
    decode_over q =
        let u = some_text v fine in
        rw u.1 (go u.0 (leb (length u.0) (length d)) refl (rw q at (made_by_lem u.0 u.1)))
      where
        go : (u : List ℕ) (b : Bool) → leb (length u) (length d) ≡ b → too_long ≡ pick b (holds u) too_long → value_most < length u
        go u true p e = let z : ◌≡◌ {A = ℕ} 0 1 = unfold pick in cc in absurd (omega arith)
        go u false p e = let k = leb-false (length u) (length d) p in omega arith

    decode_stray : r ≡ Err Broken → ValueHeld (or_else [] (decode v)) out None
    decode_stray q = let u = some_text v fine in absurd (go u.0 (leb (length u.0) (length d)) (rw q at (made_by_lem u.0 u.1)))
      where
        go : (u : List ℕ) (b : Bool) → broken ≡ pick b (holds u) too_long → ⊥
        go u true e = let z : ◌≡◌ {A = ℕ} 0 1 = unfold pick in cc in omega arith
        go u false e = let z : ◌≡◌ {A = ℕ} 0 1 = unfold pick in cc in omega arith

    decode_refused : (e : DecodeError) → r ≡ Err e → ValueHeld (or_else [] (decode v)) out None
    decode_refused TooLong q = decode_over q
    decode_refused Broken q = decode_stray q

    pub decode-told : DecodesWithin (length d) r → length out ≡ length d → (o : Optional ℕ) → o ≡ result_ok r → ValueHeld (or_else [] (decode v)) out o
    decode-told inside same o q = by r refl
      where
        by : (x : Result ℕ DecodeError) → r ≡ x → ValueHeld (or_else [] (decode v)) out o
        by (Ok n) z = let y : o ≡ Some n = rw z at q in rw y (decode-held inside same n z)
        by (Err e) z = let y : o ≡ None = rw z at q in rw y (decode_refused e z)

-- A body stands for its own bytes, or is a text that is decoded.
module _ (s : List ℕ) (a e kind : ℕ) where
  pub written_section : kind ≡ 1 → AsWritten s a e kind true
  unfolding body_text pick
  written_section k = record { is = λ g. rw k; text = λ g. absurd (false≢true (sym g)) }

  pub written-long : (kind ≡ 1 → ⊥) → AsWritten s a e kind false
  written-long n = record { is = λ g. absurd (false≢true g); text = λ g. n }

  pub written_alone : (t : Bool) → (kind ≡ 1 → ⊥) → t ≡ all stands_alone (part s a e) → AsWritten s a e kind t
  unfolding body_text pick or_else
  written_alone t n f = record { is = λ g. rw (ne_eqb kind 1 n, alone_decoded (part s a e) (sym f ∙ g)); text = λ g. n }

pub ruleset written-cases = (written_section, written-long, written_alone)

module _ (s : List ℕ) (a e kind : ℕ) (t : Bool) (w : AsWritten s a e kind t) (unwritten : t ≡ false) where
  pub text_decodes : BodyStretch s a e kind → is_some (decode (part s a e)) ≡ true
  text_decodes b = b.fine (w.text unwritten)

  pub text-held : (out : List ℕ) (n : Optional ℕ) → ValueHeld (or_else [] (decode (part s a e))) out n → ValueHeld (body_text s a e kind) out n
  unfolding body_text pick
  text-held out n h = rw (ne_eqb kind 1 (w.text unwritten)) h

  pub held-text : (out : List ℕ) (n : ℕ) → ValueHeld (or_else [] (decode (part s a e))) out (Some n) → take (n - 0) out ≡ body_text s a e kind
  held-text out n h = let z : n - 0 ≡ n = omega arith in let k : ValueFront (body_text s a e kind) out n = text-held out (Some n) h in rw z k.text
