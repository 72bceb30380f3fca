-- Loops over a tag's attributes: what the attribute at i shows of those from `at` on.
use mathlib.Core.Path.{◌≡◌, refl, sym, ◌∙◌}
use mathlib.Core.Bool.{Bool, true, false, not, false≢true}
use mathlib.Core.List.{List, [], ◌∷◌, ◌++◌, append_assoc, append-nil}
use mathlib.Core.Option.{none}
use Rattle.std.specs.Prelude.{Option as Maybe, Some, None, Result, Ok, Err}
use Prim.Native.Nat.{ℕ, ◌+◌, ◌*◌, ◌≤◌, ◌<◌}
use native.Mathlib.Omega.{arith}
use lib.Dec.{eqb, ltb}
use lib.ListN.{length, get_or, drop, set, replicate, length-set, length-take, length-drop, get_or-replicate}
use lib.Seq.{get_or-set_same, get_or-set_other}
use mir.Syntax.{w64}
use mir.Val.{Fits}
use borrow.Author.Tests.{eqb-true, eqb-false, ne_eqb, lt-ltb, le-ltb, ltb-true, ltb-false, not-true}
use Rattle.names.specs.Bytes.{all, any}
use Rattle.names.specs.Class.{is_white}
use Rattle.names.specs.Order.{same}
use Rattle.names.specs.Pick.{pick, ◌and◌}
use Rattle.names.proofs.Ordered.{same_eq}
use Rattle.names.proofs.Walk.{drop_here, drop_past}
use Rattle.names.specs.Text.{decode}
use Rattle.store.specs.Answer.{refused, unless, ◌>>◌, ◌>>=◌}
use Rattle.reader.specs.Tag.{read, Attr, has, none_twice, first_is}
use Rattle.reader.specs.Element.{element_at, attribute_at, get, known}
use Rattle.reader.specs.code.Places.{part, spaced, listed, attr_of, one_means, Inside, OneWithin}
use Rattle.reader.specs.code.AttributeNumbers.{number_of}
use Rattle.reader.specs.code.Expected.{Expected, Untelling, places_of, Expects, Seeks}
use Rattle.reader.specs.code.Found.{attribute_value, Holds, Free, first_of, listing_of, ListedTo, Lists, Once}
use Rattle.reader.specs.declared.tag.AttributePlaces.{AttributePlaces}
use Rattle.reader.specs.declared.attributes.Stretch.{Stretch}
use Rattle.reader.specs.declared.attributes.Listing.{Listing}
use Rattle.reader.specs.declared.attributes.Sought.{Sought}
use Rattle.reader.proofs.Pieces.{some_is}
use Rattle.reader.proofs.Listed.{listed_none, listed_some}
use Rattle.reader.proofs.AttrList.{get_other, get_new, has-get, distinct_more, distinct_again, distinct-front, known_more}
use Rattle.reader.proofs.AttributeNumberLaws.{number_same, number-other, number-known}

-- Where the places of an attribute lie.
module _ (s : List ℕ) (i : ℕ) (r : Maybe AttributePlaces) (a : AttributePlaces) (w : OneWithin s i r) (e : r ≡ Some a) where
  pub within : Inside s i a
  within = rw e at w

module _ (s : List ℕ) (i : ℕ) (r : Maybe AttributePlaces) (is : one_means s r ≡ spaced (drop i s)) where
  pub at_none : r ≡ None → listed (drop i s) ≡ read [] (drop i s)
  at_none e = listed_none (drop i s) 4 (sym is ∙ rw e)

  pub at_one : (a : AttributePlaces) → r ≡ Some a → listed (drop i s) ≡ read (attr_of s a ∷ (listed (drop a.next s)).got) (listed (drop a.next s)).rest
  at_one a e = listed_some (drop i s) (read (attr_of s a) (drop a.next s)) (sym is ∙ rw e)

-- A number in a row, as an index of eight bytes each.
pub scaled : (j : ℕ) → j < 8 → Fits w64 (j * 8)
scaled j h = record { fits = omega arith }

-- The attribute that is looked for first.
module _ (s : List ℕ) (i element n : ℕ) (r : Result Stretch ℕ) (x : Expects s i element n r) where
  module _ (v : Stretch) (e : r ≡ Ok v) where
    expected : Expected s i element n (places_of i v.start v.end)
    expected = rw e at x

  -- Where it is not told, what stands at another place.
  module _ (f : ℕ) (e : r ≡ Err f) where
    untelling : Untelling s i f
    untelling = rw e at x

    module _ (t : Maybe AttributePlaces) (w : OneWithin s f t) (a : AttributePlaces) (g : t ≡ Some a) where
      inside : Inside s i a
      inside =
          let u = untelling.low in
          let v = within s f t a w g in
          record { low = omega arith; named = v.named; equal = v.equal; valued = v.valued; behind = v.behind; high = v.high; fine = v.fine; run = v.run }

-- The values of an element's attributes, with one more attribute at i.
module _ (s : List ℕ) (element : ℕ) (l : List Attr) (starts ends : List ℕ) (d : Holds s element l starts ends) (h : element < 12) where
  module _ (i : ℕ) (a : AttributePlaces) (w : Inside s i a) (k : ℕ) (number : k ≡ number_of element (part s a.name a.name_end)) where
    long : 0 < length (part s a.name a.name_end)
    long = simp (length-take, length-drop) (omega arith)

    -- Another attribute's value is what it was.
    module _ (j : ℕ) (m : j < 8) (n : j ≡ k → ⊥) where
      other-get : get (attribute_at element j) (l ++ (attr_of s a ∷ [])) ≡ get (attribute_at element j) l
      other-get = get_other (attribute_at element j) l (attr_of s a) (number-other element j k (part s a.name a.name_end) h m long number n)

      other-value : get (attribute_at element j) (l ++ (attr_of s a ∷ [])) ≡ attribute_value s starts ends j
      other-value = other-get ∙ d.values j m

      other-there : has (attribute_at element j) (l ++ (attr_of s a ∷ [])) ≡ not (eqb (get_or starts j 0) 0)
      other-there =
          has-get (attribute_at element j) (l ++ (attr_of s a ∷ [])) ∙ rw other-get (sym (has-get (attribute_at element j) l)) ∙ d.there j m

    holds_extra : 8 ≤ k → Holds s element (l ++ (attr_of s a ∷ [])) starts ends
    holds_extra m =
        record {
          values = λ j g. other-value j g (λ q. omega arith);
          there = λ j g. other-there j g (λ q. omega arith);
          order = d.order;
          inside = d.inside;
          starts_size = d.starts_size;
          ends-size = d.ends-size;
        }

    module _ (m : k < 8) where
      own_name_lem : attribute_at element k ≡ part s a.name a.name_end
      own_name_lem = same_eq (attribute_at element k) (part s a.name a.name_end) (number_same element (part s a.name a.name_end) k number m)

      own_there : has (part s a.name a.name_end) l ≡ not (eqb (get_or starts k 0) 0)
      own_there = rw (← own_name_lem) (d.there k m)

      module _ (z : get_or starts k 0 ≡ 0) where
        own_get : get (attribute_at element k) (l ++ (attr_of s a ∷ [])) ≡ decode (part s a.value a.value_end)
        unfolding attribute_value pick
        own_get =
            let absent : get (attribute_at element k) l ≡ none = d.values k m ∙ rw z in
            get_new (attribute_at element k) l (attr_of s a) absent (number_same element (part s a.name a.name_end) k number m)
            ∙ sym (some_is [] (decode (part s a.value a.value_end)) w.fine)

        -- At each number the new stretches are the new attribute's, or the old.
        module _ (P : ℕ → ℕ → ℕ → Type 0) (new : P k a.value a.value_end) (old : (j : ℕ) → j < 8 → (j ≡ k → ⊥) → P j (get_or starts j 0) (get_or ends j 0)) where
          at_each : (j : ℕ) → j < 8 → P j (get_or (set starts k a.value) j 0) (get_or (set ends k a.value_end) j 0)
          at_each j g = go (eqb j k) refl
            where
              go : (b : Bool) → eqb j k ≡ b → P j (get_or (set starts k a.value) j 0) (get_or (set ends k a.value_end) j 0)
              go true e =
                  let p : k < length starts = rw d.starts_size m in
                  let q : k < length ends = rw d.ends-size m in
                  rw (eqb-true j k e, get_or-set_same starts k a.value 0 p, get_or-set_same ends k a.value_end 0 q) new
              go false e =
                  rw (get_or-set_other starts k j a.value 0 (eqb-false j k e), get_or-set_other ends k j a.value_end 0 (eqb-false j k e)) (old j g (eqb-false j k e))

        holds_own : Holds s element (l ++ (attr_of s a ∷ [])) (set starts k a.value) (set ends k a.value_end)
        unfolding attribute_value pick
        holds_own =
            let some_place : eqb a.value 0 ≡ false = ne_eqb a.value 0 (λ q. omega arith) in
            record {
              values =
                  at_each (λ j x y. get (attribute_at element j) (l ++ (attr_of s a ∷ [])) ≡ pick (eqb x 0) none (decode (part s x y)))
                  (rw some_place own_get)
                  other-value;
              there =
                  at_each (λ j x y. has (attribute_at element j) (l ++ (attr_of s a ∷ [])) ≡ not (eqb x 0))
                  (rw some_place (has-get (attribute_at element k) (l ++ (attr_of s a ∷ [])) ∙ rw own_get w.fine))
                  other-there;
              order = at_each (λ j x y. x ≤ y) w.valued (λ j g n. d.order j g);
              inside = at_each (λ j x y. y ≤ length s) (omega arith) (λ j g n. d.inside j g);
              starts_size = length-set starts k a.value ∙ d.starts_size;
              ends-size = length-set ends k a.value_end ∙ d.ends-size;
            }

-- An attribute's number where none of it was found yet.
module _ (starts : List ℕ) (j k : ℕ) (is : j ≡ k) where
  pub free_none : 8 ≤ j → Free k starts None
  free_none h = record { own = tt; taken = λ m z. absurd (omega arith) }

  pub free_not : (get_or starts j 0 ≡ 0 → ⊥) → Free k starts None
  free_not h = record { own = tt; taken = λ m z. h (rw is z) }

  pub free_own : j < 8 → get_or starts j 0 ≡ 0 → Free k starts (Some j)
  free_own h z = record { own = (is, h, z); taken = tt }

pub reading_none : (s : List ℕ) (at element : ℕ) → at ≤ length s → ListedTo s at element at 0 (replicate 8 0) (replicate 8 0) 0
unfolding get has any known none_twice attribute_value
reading_none s at element h =
    let zero_at : (j : ℕ) → j < 8 → ◌≡◌ {A = ℕ} (get_or (replicate 8 0) j 0) 0 = λ j g. get_or-replicate 8 j 0 0 g in
    record {
      got = [];
      left = refl;
      holds = λ q.
          record {
            values = λ j g. rw (zero_at j g) (unfold pick in refl);
            there = λ j g. rw (zero_at j g);
            order = λ j g. rw (zero_at j g) (omega arith);
            inside = λ j g. rw (zero_at j g) (omega arith);
            starts_size = refl;
            ends-size = refl;
          };
      knows = λ q. unfold all in refl;
      once = λ g. refl;
      free = λ j m g. zero_at j g;
      low = omega arith;
      high = h;
      few = omega arith;
    }

module _ (s : List ℕ) (at element i n : ℕ) (starts ends : List ℕ) (extra : ℕ) (d : ListedTo s at element i n starts ends extra) where
  module _ (h : element < 12) (a : AttributePlaces) (is : one_means s (Some a) ≡ spaced (drop i s)) (o : Inside s i a) (k : ℕ)
      (number : k ≡ number_of element (part s a.name a.name_end)) where
    next-left : listed (drop at s) ≡ read ((d.got ++ (attr_of s a ∷ [])) ++ (listed (drop a.next s)).got) (listed (drop a.next s)).rest
    next-left = d.left ∙ rw (at_one s i (Some a) is a refl, append_assoc)

    -- One more that is not kept: where none stands twice, it is not the element's own.
    module _ (holds : none_twice (d.got ++ (attr_of s a ∷ [])) ≡ true → Holds s element (d.got ++ (attr_of s a ∷ [])) starts ends)
        (strange : none_twice (d.got ++ (attr_of s a ∷ [])) ≡ true → any (λ r. same r.name (part s a.name a.name_end)) (element_at element).attributes ≡ false) where
      reading_more : ListedTo s at element a.next n starts ends (extra + 1)
      reading_more =
          let low = d.low in
          let few = d.few in
          let more : eqb (extra + 1) 0 ≡ false = ne_eqb (extra + 1) 0 (λ q. omega arith) in
          record {
            got = d.got ++ (attr_of s a ∷ []);
            left = next-left;
            holds = holds;
            knows = λ q. known_more (element_at element).attributes d.got (attr_of s a) ∙ rw (strange q, more) (go (known (element_at element).attributes d.got));
            once = λ g. absurd (omega arith);
            free = d.free;
            low = omega arith;
            high = omega arith;
            few = omega arith;
          }
        where
          go : (b : Bool) → (b and false) ≡ false
          go true = unfold ◌and◌ in refl
          go false = unfold ◌and◌ in refl

    pub reading_extra : 8 ≤ k → ListedTo s at element a.next n starts ends (extra + 1)
    reading_extra m =
        reading_more
        (λ q. holds_extra s element d.got starts ends (d.holds (distinct-front (attr_of s a) d.got q)) h i a o k number m)
        (λ q. number-known element k (part s a.name a.name_end) h number ∙ le-ltb k 8 m)

    pub reading_again : k < 8 → (get_or starts k 0 ≡ 0 → ⊥) → ListedTo s at element a.next n starts ends (extra + 1)
    reading_again m z = reading_more (λ q. absurd (false≢true (sym (again q) ∙ q))) (λ q. absurd (false≢true (sym (again q) ∙ q)))
      where
        again : none_twice (d.got ++ (attr_of s a ∷ [])) ≡ true → none_twice (d.got ++ (attr_of s a ∷ [])) ≡ false
        again q =
            distinct_again d.got [] (attr_of s a)
            (own_there s element d.got starts ends (d.holds (distinct-front (attr_of s a) d.got q)) h i a o k number m ∙ rw (ne_eqb (get_or starts k 0) 0 z))

    pub reading_own : k < 8 → get_or starts k 0 ≡ 0 → (m : ℕ) → n ≤ m → k < m
        → ListedTo s at element a.next m (set starts k a.value) (set ends k a.value_end) extra
    reading_own g z m p q =
        let low = d.low in
        let few = d.few in
        let row_has : any (λ r. same r.name (part s a.name a.name_end)) (element_at element).attributes ≡ true =
        number-known element k (part s a.name a.name_end) h number ∙ lt-ltb k 8 g in
        record {
          got = d.got ++ (attr_of s a ∷ []);
          left = next-left;
          holds = λ x. holds_own s element d.got starts ends (d.holds (distinct-front (attr_of s a) d.got x)) h i a o k number g z;
          knows = λ x.
              known_more (element_at element).attributes d.got (attr_of s a)
              ∙ rw row_has (go (known (element_at element).attributes d.got) ∙ d.knows (distinct-front (attr_of s a) d.got x));
          once = λ x.
              distinct_more d.got (attr_of s a) (d.once x) (own_there s element d.got starts ends (d.holds (d.once x)) h i a o k number g ∙ rw z);
          free = λ j x y. get_or-set_other starts k j a.value 0 (λ e. omega arith) ∙ d.free j (omega arith) y;
          low = omega arith;
          high = omega arith;
          few = omega arith;
        }
      where
        go : (b : Bool) → (b and true) ≡ b
        go true = unfold ◌and◌ in refl
        go false = unfold ◌and◌ in refl

  -- With the attribute that is looked for first.
  pub expected_own : (r : Result Stretch ℕ) → Expects s i element n r → (v : Stretch) → r ≡ Ok v → element < 12
      → ListedTo s at element (v.end + 1) (n + 1) (set starts n v.start) (set ends n v.end) extra
  expected_own r x v e h =
      let y = expected s i element n r x v e in
      reading_own h (places_of i v.start v.end) y.is y.inside n y.number y.few (d.free n (omega arith) y.few) (n + 1) (omega arith) (omega arith)

  -- The end of the pass: no attribute stands there.
  pub reading_end : spaced (drop i s) ≡ refused 4 → (l : Listing) → l ≡ listing_of starts ends extra i → Lists s at element l
  reading_end e l q =
      let all : listed (drop at s) ≡ read d.got (drop i s) = d.left ∙ rw (listed_none (drop i s) 4 e, append-nil) in
      let low = d.low in
      let high = d.high in
      rw q
      record {
        once = λ z. rw all (d.once z);
        whole = λ z.
            let y : none_twice d.got ≡ true = rw all at z in
            record { left = rw all; holds = rw all (d.holds y); known = rw all (d.knows y ∙ go (eqb extra 0)) };
        low = omega arith;
        high = omega arith;
      }
    where
      go : (b : Bool) → b ≡ not (not b)
      go true = refl
      go false = refl

  -- Behind the last number none was met.
  reading_late : ListedTo s at element i 8 starts ends extra
  reading_late =
      record {
        got = d.got;
        left = d.left;
        holds = d.holds;
        knows = d.knows;
        once = d.once;
        free = λ j x y. absurd (omega arith);
        low = d.low;
        high = d.high;
        few = d.few;
      }

-- Where the attribute that is looked for first is not told, with what stands at another place. After it the general way is kept to.
module _ (s : List ℕ) (at element i n : ℕ) (starts ends : List ℕ) (extra : ℕ) (d : ListedTo s at element i n starts ends extra)
    (r : Result Stretch ℕ) (x : Expects s i element n r) (f : ℕ) (e : r ≡ Err f) (t : Maybe AttributePlaces) (is : one_means s t ≡ spaced (drop f s)) where
  pub untold-end : (l : Listing) → t ≡ None → l ≡ listing_of starts ends extra i → Lists s at element l
  untold-end l g q = reading_end s at element i n starts ends extra d (sym (is ∙ (untelling s i element n r x f e).is) ∙ rw g) l q

  module _ (w : OneWithin s f t) (a : AttributePlaces) (g : t ≡ Some a) (h : element < 12) where
    stands : one_means s (Some a) ≡ spaced (drop i s)
    stands = (rw g at is) ∙ (untelling s i element n r x f e).is

    there : Inside s i a
    there = inside s i element n r x f e t w a g

    late : ListedTo s at element i 8 starts ends extra
    late = reading_late s at element i n starts ends extra d

    pub untold_extra : Free (number_of element (part s a.name a.name_end)) starts None → ListedTo s at element a.next 8 starts ends (extra + 1)
    untold_extra free = go (ltb (number_of element (part s a.name a.name_end)) 8) refl
      where
        go : (b : Bool) → ltb (number_of element (part s a.name a.name_end)) 8 ≡ b → ListedTo s at element a.next 8 starts ends (extra + 1)
        go true u = let v = ltb-true _ 8 u in reading_again s at element i 8 starts ends extra late h a stands there _ refl v (free.taken v)
        go false u = reading_extra s at element i 8 starts ends extra late h a stands there _ refl (ltb-false _ 8 u)

    pub untold_own : (k : ℕ) → Free (number_of element (part s a.name a.name_end)) starts (Some k)
        → ListedTo s at element a.next 8 (set starts k a.value) (set ends k a.value_end) extra
    untold_own k free = let v = free.own in reading_own s at element i 8 starts ends extra late h a stands there k v.0 v.1 v.2 8 (omega arith) v.1

-- What was looked for at a place, by what the code expected there.
module _ (s : List ℕ) (at element j : ℕ) (r : Result Stretch ℕ) (x : Expects s at element j r) where
  pub sought_met : (v : Stretch) → r ≡ Ok v → Seeks s at element j record { start = v.start; end = v.end; next = v.end + 1; same = v.end + 1 }
  sought_met v e =
      let y = expected s at element j r x v e in
      let i = y.inside in
      record { absent = λ z. absurd (omega arith); met = λ z. (y, refl); alike = refl; high = omega arith }

  pub sought_untold : at ≤ length s → (f : ℕ) → r ≡ Err f → Seeks s at element j record { start = 0; end = 0; next = at; same = f }
  sought_untold h f e = let y = untelling s at element j r x f e in record { absent = λ z. (refl, refl); met = λ z. absurd (z refl); alike = y.is; high = h }

pub sought_none : (s : List ℕ) (at element j : ℕ) → at ≤ length s → Seeks s at element j record { start = 0; end = 0; next = at; same = at }
sought_none s at element j h = record { absent = λ z. (refl, refl); met = λ z. absurd (z refl); alike = refl; high = h }

-- No attribute stands where no white space does.
module _ (s : List ℕ) (at : ℕ) where
  pub none_past : length s ≤ at → spaced (drop at s) ≡ refused 4
  unfolding spaced first_is unless ◌>>◌ ◌>>=◌
  none_past h = rw (drop_past s at h)

  pub none_other : (t : Bool) → t ≡ is_white (get_or s at 0) → at < length s → not t ≡ true → spaced (drop at s) ≡ refused 4
  unfolding spaced first_is unless pick ◌>>◌ ◌>>=◌
  none_other t e h g = rw (drop_here s at h, ← e, not-true t g)

-- The pass goes on with what was looked for, whether it stands there or not.
pub reading_sought : (s : List ℕ) (at element i n : ℕ) (starts ends : List ℕ) (r : Sought) → ListedTo s at element i n starts ends 0 → Seeks s i element n r → element < 12
    → set starts n 0 ≡ starts → set ends n 0 ≡ ends → ListedTo s at element r.next (n + 1) (set starts n r.start) (set ends n r.end) 0
reading_sought s at element i n starts ends r d x h p q = go (eqb r.start 0) refl
  where
    go : (b : Bool) → eqb r.start 0 ≡ b → ListedTo s at element r.next (n + 1) (set starts n r.start) (set ends n r.end) 0
    go true e =
        let z = eqb-true r.start 0 e in
        let a = x.absent z in
        rw (z, a.0, a.1, p, q)
        record {
          got = d.got;
          left = d.left;
          holds = d.holds;
          knows = d.knows;
          once = d.once;
          free = λ j y u. d.free j (omega arith) u;
          low = d.low;
          high = d.high;
          few = d.few;
        }
    go false e =
        let m = x.met (eqb-false r.start 0 e) in
        let y = m.0 in
        rw m.1
        (reading_own s at element i n starts ends 0 d h (places_of i r.start r.end) y.is y.inside n y.number y.few (d.free n (omega arith) y.few) (n + 1) (omega arith)
        (omega arith))

-- The first attributes of a row, looked for one behind the other.
module _ (s : List ℕ) (at element : ℕ) (h : element < 12) where
  pub ended : (i n : ℕ) (starts ends : List ℕ) → ListedTo s at element i n starts ends 0 → (f : ℕ) → spaced (drop f s) ≡ spaced (drop i s) → (t : Bool)
      → (t ≡ true → spaced (drop f s) ≡ refused 4) → t ≡ true → (l : Listing) → l ≡ listing_of starts ends 0 i → Lists s at element l
  ended i n starts ends d f e t k g l q = reading_end s at element i n starts ends 0 d (sym e ∙ k g) l q

  module _ (a : Sought) (m : at ≤ length s) (x : Seeks s at element 0 a) where
    first-listed : ListedTo s at element a.next 1 (first_of a.start 0 0 0) (first_of a.end 0 0 0) 0
    first-listed = reading_sought s at element at 0 (first_of 0 0 0 0) (first_of 0 0 0 0) a (reading_none s at element m) x h refl refl

    pub first-end : (t : Bool) → (t ≡ true → spaced (drop a.same s) ≡ refused 4) → t ≡ true → (l : Listing)
        → l ≡ listing_of (first_of a.start 0 0 0) (first_of a.end 0 0 0) 0 a.next → Lists s at element l
    first-end t g e l q = ended a.next 1 _ _ first-listed a.same x.alike t g e l q

    module _ (b : Sought) (y : Seeks s a.next element 1 b) where
      pub second-listed : ListedTo s at element b.next 2 (first_of a.start b.start 0 0) (first_of a.end b.end 0 0) 0
      second-listed = reading_sought s at element a.next 1 (first_of a.start 0 0 0) (first_of a.end 0 0 0) b first-listed y h refl refl

      pub second-end : (t : Bool) → (t ≡ true → spaced (drop b.same s) ≡ refused 4) → t ≡ true → (l : Listing)
          → l ≡ listing_of (first_of a.start b.start 0 0) (first_of a.end b.end 0 0) 0 b.next → Lists s at element l
      second-end t g e l q = ended b.next 2 _ _ second-listed b.same y.alike t g e l q

  module _ (a b c d : Sought) (u : ListedTo s at element b.next 2 (first_of a.start b.start 0 0) (first_of a.end b.end 0 0) 0)
      (x : Seeks s b.next element 2 c) (y : Seeks s c.next element 3 d) where
    pub fourth_listed : ListedTo s at element d.next 4 (first_of a.start b.start c.start d.start) (first_of a.end b.end c.end d.end) 0
    fourth_listed =
        let third : ListedTo s at element c.next 3 (first_of a.start b.start c.start 0) (first_of a.end b.end c.end 0) 0 =
        reading_sought s at element b.next 2 (first_of a.start b.start 0 0) (first_of a.end b.end 0 0) c u x h refl refl in
        reading_sought s at element c.next 3 (first_of a.start b.start c.start 0) (first_of a.end b.end c.end 0) d third y h refl refl

    pub fourth_end : (t : Bool) → (t ≡ true → spaced (drop d.same s) ≡ refused 4) → t ≡ true → (l : Listing)
        → l ≡ listing_of (first_of a.start b.start c.start d.start) (first_of a.end b.end c.end d.end) 0 d.next → Lists s at element l
    fourth_end t g e l q = ended d.next 4 _ _ fourth_listed d.same y.alike t g e l q

-- Where the pass left open whether one stands twice, all are compared.
module _ (s : List ℕ) (at element : ℕ) (l : Listing) (w : Lists s at element l) where
  pub once-few : l.extra ≡ 0 → Once s at element (Some l)
  once-few h = record { told = sym (w.once h); whole = w.whole (w.once h); within = (w.low, w.high) }

  pub once-all : (t : Bool) → t ≡ none_twice (listed (drop at s)).got → t ≡ true → Once s at element (Some l)
  once-all t f g = record { told = sym g ∙ f; whole = w.whole (sym f ∙ g); within = (w.low, w.high) }

pub once_not : (s : List ℕ) (at element : ℕ) (t : Bool) → t ≡ none_twice (listed (drop at s)).got → t ≡ false → Once s at element None
once_not s at element t f g = record { told = sym g ∙ f; whole = tt; within = tt }
