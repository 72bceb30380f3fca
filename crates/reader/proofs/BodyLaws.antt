-- The body of a typed item and its closing tag, by places in the file.
use mathlib.Core.Path.{◌≡◌, refl, sym, ◌∙◌, ap}
use mathlib.Core.Bool.{◌&&◌, Bool, true, false, not}
use mathlib.Core.List.{List, [], ◌∷◌, ◌++◌, append_assoc, append-nil}
use mathlib.Core.Option.{Option, none, some}
use Rattle.std.specs.Prelude.{Option as Maybe, Some, None}
use Prim.Native.Nat.{ℕ, zero, suc, ◌+◌, ◌-◌, ◌≤◌, ◌<◌}
use native.Mathlib.Omega.{arith}
use lib.Dec.{eqb}
use lib.ListN.{length, get_or, take, drop, length-take, length-drop}
use lib.Seq.{take-suc, take_all, get_or-take, get_or-drop, drop-drop}
use borrow.Author.Tests.{lt-ltb, le-ltb, le-leb, eq-eqb, ne_eqb, eqb-true, not-true}
use Rattle.std.specs.Prelude.{Result, Ok, Err}
use Rattle.std.proofs.lemmas.Result.{IfOk-weaker}
use Rattle.names.specs.Bytes.{bytes, ch, all}
use Rattle.names.specs.Class.{is_markup, is_value_byte}
use Rattle.names.specs.Name.{is_text_of}
use Rattle.names.specs.Order.{begins}
use Rattle.names.specs.Pick.{pick, ◌and◌}
use Rattle.names.specs.Scan.{front, after}
use Rattle.names.specs.Text.{in_value}
use Rattle.names.specs.code.Scanned.{Scanned}
use Rattle.names.proofs.ScanLaws.{scanned, length-after}
use Rattle.names.proofs.Stretch.{begins_reaches}
use Rattle.names.proofs.Tests.{and_l, and_r, and_true, each_way}
use Rattle.names.proofs.Walk.{drop_here, drop_past}
use Rattle.store.specs.Answer.{Answer, refused, accepted, ◌>>=◌, ◌>>◌, unless, present}
use Rattle.store.proofs.Calls.Answers.{accepted-same, bind_accepted, present-accepted}
use Rattle.reader.specs.Tag.{Read, read, strip, up_to, cut_by, cut, is_none, body_by, text_body}
use Rattle.reader.specs.code.Places.{part, decoded, Behind, closed_at, ValueTo}
use Rattle.reader.specs.code.ByteRun.{Runs}
use Rattle.reader.specs.code.Bodies.{endless, before, Cutting, cut_at, CutTo, body_text, Marked, BodyPlaces, BodyRead}
use Rattle.reader.specs.declared.body.Body.{Body}
use Rattle.store.specs.declared.answer.Refusal.{Refusal}
use Rattle.store.specs.declared.answer.Refusal.TheVariants.{WrittenForm}
use Rattle.reader.proofs.ByteRuns.{runs_all, and_both}
use Rattle.reader.proofs.ExpectedLaws.{strip-begins, strip_some}
use Rattle.reader.proofs.PiecePlaces.{behind_some, behind_no}

-- A text in front of what was cut.
before-nothing : (o : Option (Read (List ℕ))) → o ≡ before [] o
unfolding before
before-nothing none = refl
before-nothing (some r) = refl

before-next : (p : List ℕ) (x : ℕ) (o : Option (Read (List ℕ))) → before p (cut_by none x o) ≡ before (p ++ (x ∷ [])) o
unfolding before cut_by
before-next p x none = refl
before-next p x (some r) = rw append_assoc

part-next : (s : List ℕ) (at i : ℕ) → at ≤ i → i < length s → part s at (i + 1) ≡ part s at i ++ (get_or s i 0 ∷ [])
part-next s at i h k =
    let z : i + 1 - at ≡ suc (i - at) = omega arith in
    let y : at + (i - at) ≡ i = omega arith in
    let l : i - at < length (drop at s) = rw length-drop (omega arith) in
    rw (z, take-suc (drop at s) (i - at) 0 l, get_or-drop at s (i - at) 0, y)

-- The loop: no `]]>` begins from `at` up to i.
pub cutting_none : (s : List ℕ) (at : ℕ) → at ≤ length s → Cutting s at at
cutting_none s at h = let z : at - at ≡ 0 = omega arith in record { left = rw z (before-nothing (cut (bytes "]]>") (drop at s))); low = omega arith; high = h }

module _ (s : List ℕ) (at i : ℕ) (u : Cutting s at i) where
  cutting_on : strip (bytes "]]>") (drop i s) ≡ none → i < length s → Cutting s at (i + 1)
  unfolding cut
  cutting_on e h =
      let l = u.low in
      let x : strip (bytes "]]>") (get_or s i 0 ∷ drop (i + 1) s) ≡ none = rw (← drop_here s i h) e in
      let y : cut (bytes "]]>") (drop i s) ≡ cut_by none (get_or s i 0) (cut (bytes "]]>") (drop (i + 1) s)) = rw (drop_here s i h, x) in
      record {
        left = u.left ∙ rw (y, part-next s at i l h) (before-next (part s at i) (get_or s i 0) (cut (bytes "]]>") (drop (i + 1) s)));
        low = omega arith;
        high = omega arith;
      }

  pub cutting_byte : (get_or s i 0 ≡ ch "]" → ⊥) → i < length s → Cutting s at (i + 1)
  unfolding strip pick
  cutting_byte n h = cutting_on (rw (drop_here s i h, ne_eqb (ch "]") (get_or s i 0) (λ e. n (sym e)))) h

  module _ (t : Bool) (e : t ≡ begins eqb (bytes "]]>") (drop i s)) where
    pub cutting_other : t ≡ false → i < length s → Cutting s at (i + 1)
    unfolding pick
    cutting_other f h = cutting_on (strip-begins (bytes "]]>") (drop i s) ∙ rw (← e, f)) h

    pub cutting_here : t ≡ true → i < length s → CutTo s at i
    unfolding cut_at cut cut_by before pick
    cutting_here f h =
        let long = begins_reaches eqb (bytes "]]>") (drop i s) (sym e ∙ f) in
        let size = length-drop i s in
        let x : strip (bytes "]]>") (drop i s) ≡ some (drop (i + 3) s) = strip-begins (bytes "]]>") (drop i s) ∙ rw (← e, f, drop-drop) in
        let y : strip (bytes "]]>") (get_or s i 0 ∷ drop (i + 1) s) ≡ some (drop (i + 3) s) = rw (← drop_here s i h) x in
        let z : cut (bytes "]]>") (drop i s) ≡ some (read [] (drop (i + 3) s)) = rw (drop_here s i h, y) in
        record { is = rw (lt-ltb i (length s) h) (sym (u.left ∙ rw (z, append-nil))); low = u.low; high = u.high; inside = λ g. omega arith }

  pub cutting_end : length s ≤ i → CutTo s at (length s)
  unfolding cut_at cut before pick
  cutting_end h =
      let l = u.low in
      let k = u.high in
      let n : length s ≤ length s = omega arith in
      record { is = rw (le-ltb (length s) (length s) n) (sym (u.left ∙ rw (drop_past s i h))); low = omega arith; high = n; inside = λ g. absurd (omega arith) }

-- Three bytes that are `]]>`.
module _ (a b c : ℕ) where
  pub ends-first : (a ≡ ch "]" → ⊥) → false ≡ begins eqb (bytes "]]>") (a ∷ b ∷ c ∷ [])
  unfolding begins ◌and◌
  ends-first n = rw (ne_eqb (ch "]") a (λ e. n (sym e)))

  pub ends-second : a ≡ ch "]" → (b ≡ ch "]" → ⊥) → false ≡ begins eqb (bytes "]]>") (a ∷ b ∷ c ∷ [])
  unfolding begins ◌and◌
  ends-second e n = rw (e, ne_eqb (ch "]") b (λ f. n (sym f)))

  pub ends_third : a ≡ ch "]" → b ≡ ch "]" → eqb c (ch ">") ≡ begins eqb (bytes "]]>") (a ∷ b ∷ c ∷ [])
  unfolding begins ◌and◌
  ends_third e f =
      rw (e, f, and_true (eqb (ch ">") c))
      (each_way (eqb c (ch ">")) (eqb (ch ">") c) (λ h. eq-eqb (ch ">") c (sym (eqb-true c (ch ">") h))) (λ h. eq-eqb c (ch ">") (sym (eqb-true (ch ">") c h))))

pub ruleset end_tests = (ends-first, ends-second, ends_third)

-- A block, tested place by place: x says that none of those before i began one.
module _ (s : List ℕ) (i : ℕ) (x : Bool) (inv : endless s 0 64 ≡ (x and endless s i (64 - i))) where
  pub endless_next : (t : Bool) → t ≡ begins eqb (bytes "]]>") (get_or s i 0 ∷ get_or s (i + 1) 0 ∷ get_or s (i + 2) 0 ∷ []) → i < 64
      → endless s 0 64 ≡ ((x && not t) and endless s (i + 1) (64 - (i + 1)))
  endless_next t e h =
      let z : 64 - i ≡ suc (64 - (i + 1)) = omega arith in
      let y : endless s i (suc (64 - (i + 1))) ≡ (not t and endless s (i + 1) (64 - (i + 1))) = rw e (unfold endless in refl) in
      inv ∙ rw (z, y) (and_both x (not t) _)

  pub endless-end : 64 ≤ i → x ≡ endless s 0 64
  endless-end h =
      let z : 64 - i ≡ 0 = omega arith in
      let y : endless s i 0 ≡ true = unfold endless in refl in
      sym (inv ∙ rw (z, y) (and_true x))

-- A block is lent as a part of the text; none begins there either, so it is passed.
endless-part : (s : List ℕ) (i m j n : ℕ) → j + n + 2 ≤ m → endless (take m (drop i s)) j n ≡ endless s (i + j) n
unfolding endless
endless-part s i m j zero h = refl
endless-part s i m j (suc n) h =
    let here : (k : ℕ) → k < m → get_or (take m (drop i s)) k 0 ≡ get_or s (i + k) 0 = λ k l. get_or-take m (drop i s) k 0 l ∙ get_or-drop i s k 0 in
    let y : i + (j + 1) ≡ i + j + 1 = omega arith in
    let z : i + (j + 2) ≡ i + j + 2 = omega arith in
    rw (here j (omega arith), here (j + 1) (omega arith), here (j + 2) (omega arith), endless-part s i m (j + 1) n (omega arith), y, z)

module _ (s : List ℕ) (at : ℕ) where
  cutting_run : (n i : ℕ) → Cutting s at i → endless s i n ≡ true → i + n + 2 ≤ length s → Cutting s at (i + n)
  cutting_run zero i u e h = let z : i + 0 ≡ i = omega arith in rw z u
  cutting_run (suc n) i u e h =
      let z : i + suc n ≡ i + 1 + n = omega arith in
      let here : i < length s = omega arith in
      let next : i + 1 < length s = omega arith in
      let last : i + 1 + 1 < length s = omega arith in
      let y : i + 1 + 1 ≡ i + 2 = omega arith in
      let p : not (begins eqb (bytes "]]>") (get_or s i 0 ∷ get_or s (i + 1) 0 ∷ get_or s (i + 2) 0 ∷ [])) ≡ true = unfold endless in and_l _ _ e in
      let q : endless s (i + 1) n ≡ true = unfold endless in and_r _ _ e in
      let b : begins eqb (bytes "]]>") (drop i s) ≡ begins eqb (bytes "]]>") (get_or s i 0 ∷ get_or s (i + 1) 0 ∷ get_or s (i + 2) 0 ∷ [])
      = rw (drop_here s i here, drop_here s (i + 1) next, drop_here s (i + 1 + 1) last, y) (unfold begins in refl) in
      let f : false ≡ begins eqb (bytes "]]>") (drop i s) = sym (b ∙ not-true _ p) in
      rw z (cutting_run n (i + 1) (cutting_other s at i u false f refl here) q (omega arith))

  pub cutting_block : (i : ℕ) → Cutting s at i → (t : Bool) → t ≡ endless (take (i + 64 + 2 - i) (drop i s)) 0 64 → t ≡ true → 66 ≤ length s - i → Cutting s at (i + 64)
  cutting_block i u t e f h =
      let m : 0 + 64 + 2 ≤ i + 64 + 2 - i = omega arith in
      let z : i + 0 ≡ i = omega arith in
      let g : endless s i 64 ≡ true = rw (← z) (sym (endless-part s i (i + 64 + 2 - i) 0 64 m) ∙ sym e ∙ f) in
      cutting_run 64 i u g (omega arith)

pub ruleset cut_loop = (cutting_none, cutting_byte, cutting_other, cutting_here, cutting_end)

-- A test of all bytes, of which a first run has passed.
pub text-behind : (s : List ℕ) (i : ℕ) (t : Bool) → Runs is_value_byte s 0 i → t ≡ is_text_of (length s) (part s i (length s)) → t ≡ all is_value_byte s
unfolding is_text_of ◌and◌
text-behind s i t u e =
    let l = length-drop i s in
    let k : length (drop i s) ≤ length s - i = omega arith in
    let h : length (drop i s) ≤ length s = omega arith in
    e ∙ rw (take_all (length s - i) (drop i s) k, le-leb (length (drop i s)) (length s) h) (sym (runs_all s i is_value_byte u))

-- A body that is broken.
body-broken : (s : List ℕ) (at : ℕ) (o : Answer (Read (List ℕ))) → o ≡ refused 4 → BodyRead s at o (Err WrittenForm)
body-broken s at o f = record { is = sym f; places = tt }

-- What follows a run is an end of the text.
after_is : (p : ℕ → Bool) (l : List ℕ) → after p l ≡ drop (length l - length (after p l)) l
unfolding after pick
after_is p [] = refl
after_is p (x ∷ xs) = go (p x) (after_is p xs) (length-after p xs)
  where
    go : (b : Bool) → after p xs ≡ drop (length xs - length (after p xs)) xs → length (after p xs) ≤ length xs
        → pick b (after p xs) (x ∷ xs) ≡ drop (suc (length xs) - length (pick b (after p xs) (x ∷ xs))) (x ∷ xs)
    go true e h = let q : suc (length xs) - length (after p xs) ≡ suc (length xs - length (after p xs)) = omega arith in rw q e
    go false e h = let q : suc (length xs) - suc (length xs) ≡ 0 = omega arith in rw q

-- Text up to a `<`.
pub less-mark : is_markup (ch "<") ≡ true
unfolding is_markup
less-mark = refl

module _ (s : List ℕ) (at : ℕ) (o : Maybe ℕ) (v : ValueTo (ch "<") s at o) where
  pub text_unended : o ≡ None → BodyRead s at (body_by none (drop at s)) (Err WrittenForm)
  unfolding body_by closed_at
  text_unended h = body-broken s at _ (go (is_none (cut (bytes "]]>") (front (in_value (ch "<")) (drop at s)))) (sym v.is ∙ rw h))
    where
      go : (t : Bool) → up_to (ch "<") (drop at s) ≡ refused 4 → (unless t 4 >> up_to (ch "<") (drop at s)) ≡ refused 4
      go true x = unfold unless ◌>>◌ ◌>>=◌ in x
      go false x = unfold unless ◌>>◌ ◌>>=◌ in refl

  module _ (e : ℕ) (h : o ≡ Some e) where
    w : ValueTo (ch "<") s at (Some e)
    w = rw h at v

    read_to : up_to (ch "<") (drop at s) ≡ accepted (read (decoded s at e) (drop (e + 1) s))
    unfolding closed_at
    read_to = sym w.is

    text_scanned : Scanned (in_value (ch "<")) s at e
    unfolding up_to
    text_scanned =
        let t = bind_accepted _ _ _ read_to in
        let d = bind_accepted _ _ _ t.2 in
        let r : t.0 ≡ drop (e + 1) s = ap (λ (r : Read (List ℕ)). r.rest) (accepted-same d.2) in
        let l : length (after (in_value (ch "<")) (drop at s)) ≡ suc (length t.0) = ap length (strip_some (bytes "<") (after (in_value (ch "<")) (drop at s)) t.0 (present-accepted _ 4 t.0 t.1)) in
        let m : length t.0 ≡ length s - (e + 1) = ap length r ∙ length-drop (e + 1) s in
        let a = length-drop at s in
        let l2 = w.within in
        let z : length (drop at s) - length (after (in_value (ch "<")) (drop at s)) ≡ e - at = omega arith in
        let y : at + (e - at) ≡ e = omega arith in
        scanned (in_value (ch "<")) s at e (sym (after_is (in_value (ch "<")) (drop at s) ∙ rw (z, drop-drop (e - at) at s, y))) l2.0 (omega arith)

    text-marked : Marked s (e + 1)
    unfolding up_to
    text-marked =
        let t = bind_accepted _ _ _ read_to in
        let d = bind_accepted _ _ _ t.2 in
        let r : t.0 ≡ drop (e + 1) s = ap (λ (r : Read (List ℕ)). r.rest) (accepted-same d.2) in
        let here : drop e s ≡ ch "<" ∷ t.0 = text_scanned.left ∙ strip_some (bytes "<") (after (in_value (ch "<")) (drop at s)) t.0 (present-accepted _ 4 t.0 t.1) in
        let z : e + 1 - 1 ≡ e = omega arith in
        let l2 = w.within in
        record { low = omega arith; is = rw (z, ← r) here }

    module _ (r : ℕ) (u : CutTo (part s at e) 0 r) where
      part-size : length (part s at e) ≡ e - at
      part-size = let low = w.within in rw (length-take, length-drop) (omega arith)

      pub text-cut : r < e - at → BodyRead s at (body_by none (drop at s)) (Err WrittenForm)
      unfolding body_by is_none cut_at pick unless ◌>>◌ ◌>>=◌
      text-cut k =
          let m : r < length (part s at e) = rw part-size k in
          body-broken s at _ (rw (← text_scanned.passed, ← u.is, lt-ltb r (length (part s at e)) m))

      pub text_here : e - at ≤ r → BodyRead s at (body_by none (drop at s)) (Ok record { start = at; end = e; next = e + 1; kind = 0 })
      unfolding body_by is_none cut_at pick unless ◌>>◌ ◌>>=◌ body_text
      text_here k =
          let low = w.within in
          let m : length (part s at e) ≤ r = rw part-size k in
          record {
            is = sym (rw (← text_scanned.passed, ← u.is, le-ltb r (length (part s at e)) m) read_to);
            places = record {
              stretch = record { order = low.0; inside = omega arith; fine = λ g. w.fine; plain = λ g. absurd (omega arith) };
              low = omega arith;
              behind = omega arith;
              high = omega arith;
              kinds = omega arith;
              marked = text-marked;
            };
          }

pub ruleset text-cases = (text_unended, text-cut, text_here)

-- A CDATA section.
pub behind-cut : (s : List ℕ) (at e : ℕ) → CutTo s at e → e < length s → e + 3 ≤ length s
behind-cut s at e w h = w.inside h

module _ (s : List ℕ) (at e : ℕ) (w : CutTo s at e) where
  pub section_open : length s ≤ e → BodyRead s at (body_by (some (drop at s)) (drop at s)) (Err WrittenForm)
  unfolding body_by cut_at pick present ◌>>=◌
  section_open h = body-broken s at _ (rw (← w.is, le-ltb e (length s) h))

  module _ (h : e < length s) (t : Bool) (g : t ≡ all is_value_byte (part s at e)) where
    pub section_strange : t ≡ false → BodyRead s at (body_by (some (drop at s)) (drop at s)) (Err WrittenForm)
    unfolding body_by cut_at pick present unless ◌>>◌ ◌>>=◌
    section_strange k = body-broken s at _ (rw (← w.is, lt-ltb e (length s) h, ← g, k))

    module _ (k : t ≡ true) where
      pub section_beside : Behind s (e + 3) None (strip (bytes "<") (drop (e + 3) s)) → BodyRead s at (body_by (some (drop at s)) (drop at s)) (Err WrittenForm)
      unfolding body_by cut_at pick present unless ◌>>◌ ◌>>=◌
      section_beside p = body-broken s at _ (rw (← w.is, lt-ltb e (length s) h, ← g, k, behind_no s (e + 3) _ p))

      section_marked : (n : ℕ) → Behind s (e + 3) (Some n) (strip (bytes "<") (drop (e + 3) s)) → Marked s n
      section_marked n p =
          let here : drop (e + 3) s ≡ ch "<" ∷ drop n s = strip_some (bytes "<") (drop (e + 3) s) (drop n s) (behind_some s (e + 3) _ n p) in
          let a : length (drop (e + 3) s) ≡ suc (length (drop n s)) = ap length here in
          let x = length-drop (e + 3) s in
          let y = length-drop n s in
          let high = p.within in
          let z : n - 1 ≡ e + 3 = omega arith in
          record { low = omega arith; is = rw z here }

      pub section_here : (n : ℕ) → Behind s (e + 3) (Some n) (strip (bytes "<") (drop (e + 3) s)) → BodyRead s at (body_by (some (drop at s)) (drop at s)) (Ok record { start = at; end = e; next = n; kind = 1 })
      unfolding body_by cut_at pick present unless ◌>>◌ ◌>>=◌ body_text
      section_here n p =
          let i = p.within in
          let j = w.low in
          record {
            is = sym (rw (← w.is, lt-ltb e (length s) h, ← g, k, behind_some s (e + 3) _ n p));
            places = record {
              stretch = record { order = w.low; inside = w.high; fine = λ x. absurd (x refl); plain = λ x. sym g ∙ k };
              low = omega arith;
              behind = omega arith;
              high = i.1;
              kinds = omega arith;
              marked = section_marked n p;
            };
          }

-- Either.
module _ (s : List ℕ) (at : ℕ) (t : Bool) (e : t ≡ begins eqb (bytes "<![CDATA[") (drop at s)) where
  pub section_within : t ≡ true → at ≤ length s → at + 9 ≤ length s
  section_within f h =
      let long = begins_reaches eqb (bytes "<![CDATA[") (drop at s) (sym e ∙ f) in
      let size = length-drop at s in
      omega arith

  pub body_section : (r : Result Body Refusal) → t ≡ true → BodyRead s (at + 9) (body_by (some (drop (at + 9) s)) (drop (at + 9) s)) r → BodyRead s at (text_body (drop at s)) r
  unfolding text_body body_by pick
  body_section r f w =
      let x : strip (bytes "<![CDATA[") (drop at s) ≡ some (drop (at + 9) s) = strip-begins (bytes "<![CDATA[") (drop at s) ∙ rw (← e, f, drop-drop) in
      record { is = rw x w.is; places = IfOk-weaker r (λ b. BodyPlaces s (at + 9) b) (λ b. BodyPlaces s at b) nearer w.places }
    where
      nearer : (b : Body) → BodyPlaces s (at + 9) b → BodyPlaces s at b
      nearer b p = let low = p.low in record { stretch = p.stretch; low = omega arith; behind = p.behind; high = p.high; kinds = p.kinds; marked = p.marked }

  pub body-text : (r : Result Body Refusal) → t ≡ false → BodyRead s at (body_by none (drop at s)) r → BodyRead s at (text_body (drop at s)) r
  unfolding text_body pick
  body-text r f w =
      let x : strip (bytes "<![CDATA[") (drop at s) ≡ none = strip-begins (bytes "<![CDATA[") (drop at s) ∙ rw (← e, f) in
      record { is = rw x w.is; places = w.places }

pub ruleset body-cases = (body_section, body-text)
