-- The opening tag of an entity: what its stretches say of its key, its value, and whether it is an item with one.
use mathlib.Core.Path.{◌≡◌, refl, sym, ap, subst, ◌∙◌}
use mathlib.Core.Bool.{Bool, true, false, not, ◌||◌, false≢true}
use mathlib.Core.List.{List, [], ◌∷◌, ◌++◌, append-nil}
use mathlib.Core.Option.{Option, none, some}
use Prim.Native.Nat.{ℕ, zero, suc, ◌+◌, ◌-◌, ◌*◌, ◌≤◌, ◌<◌}
use native.Mathlib.Decide.{ℕ_discrete}
use native.Mathlib.Numerals.{add-one}
use native.Mathlib.Omega.{arith}
use Rattle.std.specs.Prelude.{Some, None, Result, is_ok}
use Rattle.store.specs.declared.decide.Kind.TheVariants.{End}
use lib.Dec.{eqb, leb, ltb, lit<}
use lib.ListN.{length, take, drop, get_or, length-append, length-take, take-append-drop}
use lib.Seq.{take_at, take-take, take_all, length-take-le}
use borrow.Author.Tests.{eq-eqb, ne_eqb, le-leb, leb-true, ltb-true, ltb-false}
use Rattle.names.specs.Bytes.{bytes, all, any}
use Rattle.names.specs.Order.{alike, same}
use Rattle.names.specs.Key.{Key, Name, names_used, is_key, own_names, packed, names_in}
use Rattle.names.specs.code.HeldKey.{held_name, held_from, Packs}
use Rattle.names.specs.code.KeyWhole.{WholeKey}
use Rattle.names.specs.Name.{is_name, is_long_name, is_name_of, is_value, is_text_of, name_most, value_most}
use Rattle.names.specs.Overwrite.{overwrite}
use Rattle.names.specs.code.Wrote.{Wrote}
use Rattle.names.specs.Pick.{pick, ◌and◌}
use Rattle.names.specs.Text.{decode}
use Rattle.names.specs.code.Decoding.{holds, too_long, broken, fitted, decoded_in, DecodesWithin}
use Rattle.names.specs.declared.text.DecodeError.{DecodeError}
use Rattle.names.specs.declared.text.DecodeError.TheVariants.{TooLong, Broken}
use Rattle.std.specs.Prelude.{Result, Ok, Err}
use Rattle.names.proofs.KeyCompared.{whole-key}
use Rattle.names.proofs.KeyDepth.{used_most}
use Rattle.names.proofs.KeyHeld.{held-length, held-take}
use Rattle.names.proofs.KeyPacked.{fits, names-packed, packed-length}
use Rattle.names.proofs.OverwriteLaws.{overwrite-length}
use Rattle.names.proofs.Tests.{and_l, and_i, not_then}
use Rattle.store.specs.Change.{is_null, live}
use Rattle.store.specs.code.Pending.{LooksUp}
use Rattle.store.specs.code.Rows.{first_changes}
use Rattle.store.specs.declared.pending.Pending.{Pending}
use Rattle.store.proofs.Layouts.EntryKeys.{by_depth, name-length}
use Rattle.reader.specs.Tag.{Attr, has}
use Rattle.reader.specs.Element.{Form, long_name, name, elements, element_at, attribute_at, get, or_else, formed_by, has_form, item, may_stand, body_fits}
use Rattle.reader.specs.code.Placed.{Placed}
use Rattle.reader.specs.code.Found.{attrs_of, attribute_value}
use Rattle.reader.specs.Judge.{outer_key, key_here, value_by, given_by}
use Rattle.reader.specs.code.Places.{part}
use Rattle.reader.specs.declared.body.Content.{Content}
use Rattle.reader.specs.declared.cursor.TagRead.{TagRead}
use Rattle.reader.proofs.Forms.{stands_self, stands_at, stands-item, typed_row, typed-row, typed-first, untyped_body, not_there, none_there, formed-at, required-at, body-value, entry}
use Rattle.reader.specs.code.Answered.{Attributed, plain_at}
use Rattle.reader.specs.code.EntityTags.{eight_in, key_held, own_name, repeat_name, Filled, given_at, text_room}
use Rattle.reader.specs.code.Acting.{tag_value, plan_of, EndPlanned}
use Rattle.reader.specs.code.Bodies.{body_text, BodyStretch, AsWritten, ValueHeld}
use Rattle.reader.specs.code.Telling.{content_text, Holding}
use Rattle.reader.specs.declared.act.Plan.{Plan}
use Rattle.reader.specs.code.OpenElements.{frames_in}
use Rattle.reader.specs.code.Values.{stands_alone, is_plain_form, row_at, plain_form}
use Rattle.reader.proofs.ContentLaws.{text-held, held-text}
use Rattle.reader.proofs.FormLaws.{alone_decoded}
use Rattle.reader.proofs.PlainValues.{plain_value, value-fits}

abbrev starts : TagRead → ℕ → ℕ
starts t j = get_or t.found.starts j 0

abbrev ends : TagRead → ℕ → ℕ
ends t j = get_or t.found.ends j 0

-- The stretches lie in the file.
module _ (s : List ℕ) (t : TagRead) (a : Attributed s t) where
  module _ (j : ℕ) (h : j < 8) where
    pub stretch-order : get_or t.found.starts j 0 ≤ get_or t.found.ends j 0
    stretch-order = a.holds.order j h

    pub stretch-inside : get_or t.found.ends j 0 ≤ length s
    stretch-inside = a.holds.inside j h

    pub stretch-start : get_or t.found.starts j 0 ≤ length s
    stretch-start = let x = stretch-order in let y = stretch-inside in omega arith

-- An attribute of a plain form is its stretch.
module _ (s : List ℕ) (t : TagRead) (e : ℕ) (row : t.element ≡ e) (a : Attributed s t) (p : Placed t.element (attrs_of s t)) where
  plain-there : (j : ℕ) → j < 8 → plain_form e j ≡ true → (starts t j ≡ 0 → ⊥) → part s (starts t j) (ends t j) ≡ or_else [] (get (attribute_at e j) (attrs_of s t))
  unfolding plain_at pick or_else
  plain-there j h f n = sym (rw (plain_value s e j t row a p f, ne_eqb (starts t j) 0 n))

  plain-absent : (j : ℕ) → j < 8 → plain_form e j ≡ true → starts t j ≡ 0 → or_else [] (get (attribute_at e j) (attrs_of s t)) ≡ []
  unfolding plain_at pick or_else
  plain-absent j h f n = rw (plain_value s e j t row a p f, eq-eqb (starts t j) 0 n)

  -- A required one stands there.
  plain-required : (j : ℕ) (f : Form) → j < 8 → plain_form e j ≡ true → has_form f [] ≡ false
      → has_form f (or_else [] (get (attribute_at e j) (attrs_of s t))) ≡ true
      → part s (starts t j) (ends t j) ≡ or_else [] (get (attribute_at e j) (attrs_of s t))
  plain-required j f h q n g = elim (ℕ_discrete (starts t j) 0) [
    | yes z ↦ absurd (false≢true (sym n ∙ rw (plain-absent j h q z) at g))
    | no z ↦ plain-there j h q z
  ]

-- StudyOID and MetaDataVersionOID,
module _ (s : List ℕ) (t : TagRead) (row : t.element ≡ 1) (a : Attributed s t) (p : Placed t.element (attrs_of s t)) where
  clinical : Placed 1 (attrs_of s t)
  clinical = rw row at p

  pub study-part : part s (get_or t.found.starts 0 0) (get_or t.found.ends 0 0) ≡ or_else [] (get (bytes "StudyOID") (attrs_of s t))
  unfolding attribute_at element_at elements plain_form row_at is_plain_form has_form is_long_name ◌and◌
  study-part =
      plain-required s t 1 row a p 0 long_name (lit< tt) refl (unfold is_name_of ◌and◌ in refl) (required-at 1 (attrs_of s t) clinical 0 long_name (lit< tt) refl refl)

  pub version-part : part s (get_or t.found.starts 1 0) (get_or t.found.ends 1 0) ≡ or_else [] (get (bytes "MetaDataVersionOID") (attrs_of s t))
  unfolding attribute_at element_at elements plain_form row_at is_plain_form has_form is_long_name ◌and◌
  version-part =
      plain-required s t 1 row a p 1 long_name (lit< tt) refl (unfold is_name_of ◌and◌ in refl) (required-at 1 (attrs_of s t) clinical 1 long_name (lit< tt) refl refl)

-- The element around.
outer_front : (level : ℕ) (k : List Name) (ws : List ℕ) → 1 ≤ level → outer_key (frames_in level k ws) ≡ take (names_used (level - 1)) k
unfolding outer_key frames_in
outer_front zero k ws h = absurd (omega arith)
outer_front (suc l) k ws h = let z : suc l - 1 ≡ l = omega arith in rw z

-- the key or OID of an entity,
abbrev oid_here : List ℕ → TagRead → ℕ → List ℕ
oid_here s t d = or_else [] (get (attribute_at (suc d) 0) (attrs_of s t))

abbrev repeat_here : List ℕ → TagRead → ℕ → List ℕ
repeat_here s t d = or_else [] (get (attribute_at (suc d) 1) (attrs_of s t))

abbrev Owns : List ℕ → TagRead → ℕ → Type 0
Owns s t d = t.element ≡ suc d → Attributed s t → Placed t.element (attrs_of s t)
    → (is_name (oid_here s t d) ≡ true) × (part s (get_or t.found.starts 0 0) (get_or t.found.ends 0 0) ≡ oid_here s t d)

no_name : has_form name [] ≡ false
unfolding has_form is_name is_name_of ◌and◌
no_name = refl

own_at : (s : List ℕ) (t : TagRead) (level : ℕ) → 0 < length (element_at level).attributes → plain_form level 0 ≡ true
    → (get_or (element_at level).attributes 0 record { name = []; required = false; form = name }).form ≡ name
    → (get_or (element_at level).attributes 0 record { name = []; required = false; form = name }).required ≡ true
    → t.element ≡ level → Attributed s t → Placed t.element (attrs_of s t)
    → (is_name (or_else [] (get (attribute_at level 0) (attrs_of s t))) ≡ true)
    × (part s (get_or t.found.starts 0 0) (get_or t.found.ends 0 0) ≡ or_else [] (get (attribute_at level 0) (attrs_of s t)))
unfolding has_form
own_at s t level w q f r row a p =
    let here : Placed level (attrs_of s t) = rw row at p in
    let e = required-at level (attrs_of s t) here 0 name w f r in
    (e, plain-required s t level row a p 0 name (lit< tt) q no_name e)

owns : (s : List ℕ) (t : TagRead) (d : ℕ) → 1 ≤ d → d ≤ 5 → Owns s t d
unfolding element_at elements plain_form row_at is_plain_form ◌and◌
owns s t d l h =
    by_depth
    (λ d. Owns s t d)
    (own_at s t 2 (lit< tt) refl refl refl)
    (own_at s t 3 (lit< tt) refl refl refl)
    (own_at s t 4 (lit< tt) refl refl refl)
    (own_at s t 5 (lit< tt) refl refl refl)
    (own_at s t 6 (lit< tt) refl refl refl)
    d l h

-- and at depths 2 to 4 its repeat key.
abbrev Repeats : List ℕ → TagRead → ℕ → Type 0
Repeats s t d = (plain_form (suc d) 1 ≡ true) × (1 < length (element_at (suc d)).attributes)
    × ((get_or (element_at (suc d)).attributes 1 record { name = []; required = false; form = name }).form ≡ name)

repeats : (s : List ℕ) (t : TagRead) (d : ℕ) → 1 ≤ d → d ≤ 5 → (d ≡ 1 → ⊥) → (d ≡ 5 → ⊥) → Repeats s t d
unfolding element_at elements plain_form row_at is_plain_form ◌and◌
repeats s t d l h n m =
    by_depth
    (λ d. (d ≡ 1 → ⊥) → (d ≡ 5 → ⊥) → Repeats s t d)
    (λ n m. absurd (n refl))
    (λ n m. (refl, lit< tt, refl))
    (λ n m. (refl, lit< tt, refl))
    (λ n m. (refl, lit< tt, refl))
    (λ n m. absurd (m refl))
    d l h n m

formed-name : (o : Option (List ℕ)) → formed_by name o ≡ true → length (or_else [] o) ≤ name_most
unfolding formed_by has_form or_else
formed-name none e = omega arith
formed-name (some v) e = name-length v e

-- The length of a text that was written into.
wrote_length : (d : List ℕ) (n : ℕ) (s out : List ℕ) (r : ℕ) → Wrote d n s out r → length out ≡ length d
wrote_length d n s out r w = rw w.text (overwrite-length d n s w.room)

-- Those of a typed item are found in its row.
typed_own : (s : List ℕ) (t : TagRead) → item < t.element → Attributed s t → Placed t.element (attrs_of s t)
    → (is_name (oid_here s t 5) ≡ true) × (part s (get_or t.found.starts 0 0) (get_or t.found.ends 0 0) ≡ oid_here s t 5)
typed_own s t h a p =
    let row = (typed-row t.element h p.deep).0 in
    let first = typed-first t.element row in
    rw first at (own_at s t t.element (rw row (lit< tt)) (plain row) (rw row) (rw row) refl a p)
  where
    plain : (element_at t.element).attributes ≡ typed_row → plain_form t.element 0 ≡ true
    plain row = unfold plain_form row_at in (rw row (unfold is_plain_form ◌and◌ in refl))

-- The names that the tag of an entity gives, as the slots hold them.
module _ (s : List ℕ) (t : TagRead) (level : ℕ) (low : 1 ≤ level) (high : level ≤ 5) (a : Attributed s t)
    (p : Placed t.element (attrs_of s t)) (here : may_stand (level + 1) t.element ≡ true) where
  row : level < 5 → t.element ≡ suc level
  row h = stands_at (level + 1) t.element here (omega arith) ∙ add-one level

  inner : level ≡ 5 → item ≤ t.element
  inner e = stands-item (level + 1) t.element here (omega arith)

  pub entity-element : 2 ≤ t.element
  entity-element = elim (ℕ_discrete level 5) [ yes e ↦ (let i = inner e in omega arith) | no n ↦ (let r = row (omega arith) in omega arith) ]

  own : (is_name (oid_here s t level) ≡ true) × (part s (get_or t.found.starts 0 0) (get_or t.found.ends 0 0) ≡ oid_here s t level)
  own = elim (ℕ_discrete level 5) [
    | no n ↦ owns s t level low high (row (omega arith)) a p
    | yes e ↦ rw e (elim (ℕ_discrete t.element item) [
      | yes q ↦ owns s t 5 (omega arith) (omega arith) q a p
      | no q ↦ typed_own s t (let i = inner e in omega arith) a p
    ])
  ]

  own_cut : own_name s t ≡ oid_here s t level
  own_cut = rw own.1 (take_all name_most (oid_here s t level) (name-length (oid_here s t level) own.0))

  repeat_most : (level ≡ 1 → ⊥) → (level ≡ 5 → ⊥) → length (repeat_here s t level) ≤ name_most
  repeat_most n m =
      let r = repeats s t level low high n m in
      formed-name (get (attribute_at (suc level) 1) (attrs_of s t)) (formed-at (suc level) (attrs_of s t) (subst (λ (e : ℕ). Placed e (attrs_of s t)) (row (omega arith)) p) 1 name r.1 r.2)

  repeat_cut : (level ≡ 1 → ⊥) → (level ≡ 5 → ⊥) → repeat_name s t ≡ repeat_here s t level
  unfolding repeat_name pick
  repeat_cut n m =
      let r = repeats s t level low high n m in
      elim (ℕ_discrete (starts t 1) 0) [
        | yes c ↦ rw (eq-eqb (starts t 1) 0 c) (sym (plain-absent s t (suc level) (row (omega arith)) a p 1 (lit< tt) r.0 c))
        | no c ↦ rw (ne_eqb (starts t 1) 0 c, plain-there s t (suc level) (row (omega arith)) a p 1 (lit< tt) r.0 c) (take_all name_most (repeat_here s t level) (repeat_most n m))
      ]

  names_here : own_names level (own_name s t) (repeat_name s t) ≡ own_names level (oid_here s t level) (repeat_here s t level)
  unfolding own_names pick
  names_here = rw own_cut (elim (ℕ_discrete level 1) [
    | yes e ↦ rw (eq-eqb level 1 e)
    | no n ↦ elim (ℕ_discrete level 5) [
      | yes e ↦ rw (ne_eqb level 1 n, eq-eqb level 5 e)
      | no m ↦ rw (ne_eqb level 1 n, ne_eqb level 5 m, repeat_cut n m)
    ]
  ])

  -- Those that are held are its key.
  pub key_here_lem : (k : List Name) (ws : List ℕ) (kind : ℕ) → Filled s t kind level k → kind < 2 → take (names_used level) k ≡ key_here level (frames_in level k ws) (attrs_of s t)
  unfolding key_here
  key_here_lem k ws kind f h = f h low high ∙ rw (outer_front level k ws low, names_here)

-- The key of an entity, as it is held.
pub held-key : (depth : ℕ) (names lens : List ℕ) → key_held depth names lens ≡ take (names_used depth) (eight_in names lens)
held-key depth names lens = sym (held-take (names_used depth) 8 0 names lens (used_most depth))

-- An item's value.
wrote_none : (d : List ℕ) (at : ℕ) (v : List ℕ) → at ≤ length d → v ≡ [] → Wrote d at v d at
unfolding overwrite
wrote_none d at v h e =
    let z : at + 0 ≡ at = omega arith in
    rw e record { text = sym (rw (z, append-nil) (take-append-drop at d)); next = omega arith; room = omega arith }

null_is : (v : List ℕ) → is_null v ≡ true → v ≡ []
unfolding is_null
null_is [] e = refl
null_is (c ∷ v) e = absurd (false≢true e)

value-plain : (l : List Attr) (b : List ℕ) → value_by none l b ≡ or_else [] (get (bytes "Value") l)
unfolding value_by
value-plain l b = refl

given-plain : (l : List Attr) → given_by none l ≡ (has (bytes "Value") l || has (bytes "IsNull") l)
unfolding given_by
given-plain l = refl

-- Only ItemData may have one.
outer_entry : (e : ℕ) (l : List Attr) → 2 ≤ e → e < item → Placed e l → (or_else [] (get (bytes "Value") l) ≡ []) × ((has (bytes "Value") l || has (bytes "IsNull") l) ≡ false)
outer_entry zero l h n p = absurd (omega arith)
outer_entry (suc zero) l h n p = absurd (omega arith)
outer_entry (suc (suc d)) l h n p =
    let y = entry d (suc (suc d)) l [] (stands_self (suc (suc d)) n) p (rw (untyped_body (suc (suc d)) (omega arith)) refl) in
    let none-bodied = untyped_body (suc (suc d)) (omega arith) in
    let other : eqb (suc d) 5 ≡ false = ne_eqb (suc d) 5 (λ e. omega arith) in
    let null : is_null (or_else [] (get (bytes "Value") l)) ≡ true = rw (none-bodied, value-plain, other) at y.null in
    (null_is _ null, not_then _ (λ g. false≢true (sym other ∙ y.given (rw (none-bodied, given-plain) g))))

typed_valueless : (e : ℕ) (l : List Attr) → item < e → Placed e l → or_else [] (get (bytes "Value") l) ≡ []
typed_valueless e l h p = rw (none_there (bytes "Value") l (not_there e l (bytes "Value") p (rw (typed-row e h p.deep).0 (unfold any same alike ◌and◌ in refl)))) (unfold or_else in refl)

valueless_element : (e : ℕ) (l : List Attr) → 2 ≤ e → (e ≡ 6 → ⊥) → Placed e l → or_else [] (get (bytes "Value") l) ≡ []
valueless_element e l h n p = go (ltb e item) refl
  where
    go : (b : Bool) → ltb e item ≡ b → or_else [] (get (bytes "Value") l) ≡ []
    go true c = (outer_entry e l h (ltb-true e item c) p).0
    go false c = typed_valueless e l (let i = ltb-false e item c in omega arith) p

module _ (s : List ℕ) (t : TagRead) (low : 2 ≤ t.element) (a : Attributed s t) (p : Placed t.element (attrs_of s t)) where
  value_by_lem : t.element ≡ 6 → get (bytes "Value") (attrs_of s t) ≡ attribute_value s t.found.starts t.found.ends 1
  unfolding attribute_at element_at elements
  value_by_lem e = rw e at (a.holds.values 1 (lit< tt))

  module _ (d : List ℕ) (at : ℕ) (room : at + value_most ≤ length d) where
    pub value_none : (t.element ≡ 6 → ⊥) → Wrote d at (or_else [] (get (bytes "Value") (attrs_of s t))) d at
    value_none n = wrote_none d at _ (omega arith) (valueless_element t.element (attrs_of s t) low n p)

    pub value-absent : t.element ≡ 6 → get_or t.found.starts 1 0 ≡ 0 → Wrote d at (or_else [] (get (bytes "Value") (attrs_of s t))) d at
    unfolding attribute_value pick or_else
    value-absent e c = wrote_none d at _ (omega arith) (rw (value_by_lem e, eq-eqb (get_or t.found.starts 1 0) 0 c))

    module _ (e : t.element ≡ 6) (c : get_or t.found.starts 1 0 ≡ 0 → ⊥) where
      value_here : (x : List ℕ) × (decode (part s (get_or t.found.starts 1 0) (get_or t.found.ends 1 0)) ≡ some x) × (is_value x ≡ true)
      value_here = value-fits s t e a p c

      value-got : or_else [] (get (bytes "Value") (attrs_of s t)) ≡ value_here.0
      unfolding attribute_value pick or_else
      value-got = rw (value_by_lem e, ne_eqb (get_or t.found.starts 1 0) 0 c, value_here.1)

      fits-room : fitted value_most (decode (part s (get_or t.found.starts 1 0) (get_or t.found.ends 1 0))) ≡ holds value_here.0
      unfolding fitted pick
      fits-room =
          let short : leb (length value_here.0) value_most ≡ true = unfold is_value is_text_of in and_l _ _ value_here.2 in
          rw (value_here.1, short)

      value-few : length value_here.0 ≤ value_most
      value-few = leb-true _ _ (unfold is_value is_text_of in and_l _ _ value_here.2)

      -- It is written as it stands in the file where no byte of it is written as an entity.
      module _ (x : List ℕ) (there : x ≡ part s (get_or t.found.starts 1 0) (get_or t.found.ends 1 0)) (b : Bool) (by : b ≡ all stands_alone x) (f : b ≡ true) where
        alone_here : x ≡ value_here.0
        alone_here =
            let q : decode x ≡ some x = alone_decoded x (sym by ∙ f) in
            let z : decode x ≡ some value_here.0 = rw there value_here.1 in
            cc

        pub alone_room : at + length x ≤ length d
        alone_room = let l = value-few in rw alone_here (omega arith)

        pub alone_put : (out : List ℕ) (z : ℕ) → Wrote d at x out z → Wrote d at (or_else [] (get (bytes "Value") (attrs_of s t))) out z
        alone_put out z w = rw (value-got, ← alone_here) w

      module _ (x : List ℕ) (there : x ≡ part s (get_or t.found.starts 1 0) (get_or t.found.ends 1 0)) (m : ℕ) (v : List ℕ) (r : Result ℕ DecodeError) (size : m ≡ value_most)
          (by : decoded_in v r ≡ fitted m (decode x)) where
        is : decoded_in v r ≡ fitted m (decode (part s (get_or t.found.starts 1 0) (get_or t.found.ends 1 0)))
        is = by ∙ rw there

        fitting : fitted m (decode (part s (get_or t.found.starts 1 0) (get_or t.found.ends 1 0))) ≡ holds value_here.0
        fitting = ap (λ (x : ℕ). fitted x (decode (part s (get_or t.found.starts 1 0) (get_or t.found.ends 1 0)))) size ∙ fits-room

        pub value-put : (n : ℕ) (out : List ℕ) (z : ℕ) → r ≡ Ok n → Wrote d at (take (n - 0) v) out z → Wrote d at (or_else [] (get (bytes "Value") (attrs_of s t))) out z
        value-put n out z q w =
            let f : n - 0 ≡ n = omega arith in
            let h : holds (take n v) ≡ holds value_here.0 = (rw q at is) ∙ fitting in
            let g : take n v ≡ value_here.0 = cc in
            rw (value-got, ← g) (rw f at w)

        pub value_refused : (e : DecodeError) → r ≡ Err e → Wrote d at (or_else [] (get (bytes "Value") (attrs_of s t))) d at
        value_refused TooLong q = let h : too_long ≡ holds value_here.0 = (rw q at is) ∙ fitting in let z : ◌≡◌ {A = ℕ} 0 1 = cc in absurd (omega arith)
        value_refused Broken q = let h : broken ≡ holds value_here.0 = (rw q at is) ∙ fitting in let z : ◌≡◌ {A = ℕ} 0 1 = cc in absurd (omega arith)

        -- It has room.
        pub value_room : (n : ℕ) → r ≡ Ok n → at + length (take (n - 0) v) ≤ length d
        value_room n q =
            let f : n - 0 ≡ n = omega arith in
            let h : holds (take n v) ≡ holds value_here.0 = (rw q at is) ∙ fitting in
            let g : take n v ≡ value_here.0 = cc in
            let l = value-few in
            rw (f, g) (omega arith)

  -- Whether it or IsNull stands there; a typed item's body always does.
  pub given-has : given_at t.element t.found.starts ≡ given_by (element_at t.element).body (attrs_of s t)
  unfolding given_at pick
  given-has = go (ltb item t.element) refl
    where
      by_places : (b c : Bool) → pick true (pick b (pick c false true) true) false ≡ (not b || not c)
      by_places true true = unfold pick in refl
      by_places true false = unfold pick in refl
      by_places false c = unfold pick in refl

      go : (x : Bool) → ltb item t.element ≡ x → pick x true (pick (eqb t.element item) (pick (eqb (starts t 1) 0) (pick (eqb (starts t 2) 0) false true) true) false) ≡ given_by (element_at t.element).body (attrs_of s t)
      go true h = let row = (typed-row t.element (ltb-true item t.element h) p.deep).1 in rw row.1 (unfold pick given_by in refl)
      go false h =
          let few : t.element ≤ item = ltb-false item t.element h in
          rw (untyped_body t.element few) (unfold given_by in elim (ℕ_discrete t.element 6) [
            | yes e ↦
                let v : has (bytes "Value") (attrs_of s t) ≡ not (eqb (starts t 1) 0) = unfold attribute_at element_at elements in (rw e at (a.holds.there 1 (lit< tt))) in
                let u : has (bytes "IsNull") (attrs_of s t) ≡ not (eqb (starts t 2) 0) = unfold attribute_at element_at elements in (rw e at (a.holds.there 2 (lit< tt))) in
                rw (eq-eqb t.element 6 e, v, u) (by_places (eqb (starts t 1) 0) (eqb (starts t 2) 0))
            | no n ↦ rw (ne_eqb t.element 6 n) (sym (outer_entry t.element (attrs_of s t) low (omega arith) p).1)
          ])

-- What a tag gives its entity: a typed item its body, another entity its Value, if any.
module _ (s : List ℕ) (t : TagRead) (c : Content) (p : Placed t.element (attrs_of s t)) (d : List ℕ) (at : ℕ) (out : List ℕ) (r : ℕ) where
  pub body-given : item < t.element → Wrote d at (content_text s c) out r → Wrote d at (tag_value s t c) out r
  body-given h w = let row = (typed-row t.element h p.deep).1 in rw row.1 (unfold value_by in w)

  pub value-given : t.element ≤ item → Wrote d at (or_else [] (get (bytes "Value") (attrs_of s t))) out r → Wrote d at (tag_value s t c) out r
  value-given h w = rw (untyped_body t.element h) (unfold value_by in w)

value-short : (v : List ℕ) → is_value v ≡ true → length v ≤ value_most
unfolding is_value is_text_of
value-short v e = leb-true _ _ (and_l _ _ e)

-- A body that fits is no longer than a value.
pub body-short : (s : List ℕ) (t : TagRead) (c : Content) → Placed t.element (attrs_of s t) → Holding s t.element c → item < t.element → length (content_text s c) ≤ value_most
body-short s t c p h z =
    let row = (typed-row t.element z p.deep).1 in
    let fits : body_fits row.0 (content_text s c) ≡ true = rw row.1 at h.bodied in
    value-short (content_text s c) (body-value row.0 (content_text s c) fits)

pub body-stretch : (s : List ℕ) (e : ℕ) (c : Content) → Holding s e c → BodyStretch s c.start c.end c.kind
body-stretch s e c h = h.stretch

-- A body's value, written behind a front, as it stands in the file
module _ (s : List ℕ) (a e kind : ℕ) (t : Bool) (w : AsWritten s a e kind t) (few : length (body_text s a e kind) ≤ value_most) where
  module _ (y : t ≡ true) (d : List ℕ) (at : ℕ) where
    pub written-room : at + value_most ≤ length d → at + length (part s a e) ≤ length d
    written-room r = rw (← w.is y) (omega arith)

    pub written-put : (out : List ℕ) (r : ℕ) → Wrote d at (part s a e) out r → Wrote d at (body_text s a e kind) out r
    written-put out r x = rw (w.is y) x

  -- or decoded.
  module _ (y : t ≡ false) (held : List ℕ) where
    pub held-never : ValueHeld (or_else [] (decode (part s a e))) held None → ⊥
    held-never h = let l : value_most < length (body_text s a e kind) = text-held s a e kind t w y held None h in omega arith

  module _ (y : t ≡ false) (held : List ℕ) (n : ℕ) (h : ValueHeld (or_else [] (decode (part s a e))) held (Some n)) where
    held-is : take (n - 0) held ≡ body_text s a e kind
    held-is = held-text s a e kind t w y held n h

    pub held-room : (d : List ℕ) (at : ℕ) → at + value_most ≤ length d → at + length (take (n - 0) held) ≤ length d
    held-room d at r = rw held-is (omega arith)

    pub held-put : (d : List ℕ) (at : ℕ) (out : List ℕ) (r : ℕ) → Wrote d at (take (n - 0) held) out r → Wrote d at (body_text s a e kind) out r
    held-put d at out r x = rw held-is at x

-- The bytes of a held key.
held_fits : (n i : ℕ) (names lens : List ℕ) → all fits (held_from n i names lens) ≡ true
unfolding held_from all
held_fits zero i names lens = refl
held_fits (suc n) i names lens =
    and_i _ _ (short i) (held_fits n (i + 1) names lens)
  where
    short : (i : ℕ) → fits (held_name names lens i) ≡ true
    short i = unfold fits held_name in le-leb (length (take (get_or lens i 0) (take name_most (drop (name_most * i) names)))) name_most (let z = length-take (get_or lens i 0) (take name_most (drop (name_most * i) names)) in let y = length-take name_most (drop (name_most * i) names) in omega arith)

-- Behind them there is room for a value.
pub value-behind : (n : ℕ) (names lens d y : List ℕ) (k : ℕ) → Packs (held_from n 0 names lens) d y k → n ≤ 8 → length d ≡ text_room → k + value_most ≤ length y
value-behind n names lens d y k w m h =
    let l = packed-length (held_from n 0 names lens) (held_fits n 0 names lens) in
    let i = held-length n 0 names lens in
    let z = w.size in
    let r = w.room in
    omega arith

-- A decoded value lies in its buffer.
pub decoded-inside : (room : ℕ) (r : Result ℕ DecodeError) (n : ℕ) → DecodesWithin room r → r ≡ Ok n → n ≤ room
decoded-inside room r n w e = rw e at w

-- A stretch from the start of a text on.
pub from_start : (k : ℕ) → k - 0 ≡ k
from_start k = omega arith

-- What was written ends in the text.
pub wrote_inside : (d : List ℕ) (n : ℕ) (s out : List ℕ) (r : ℕ) → Wrote d n s out r → r ≤ length out
wrote_inside d n s out r w = let a = w.next in let b = w.room in let c = wrote_length d n s out r w in omega arith

-- What was written behind a front stands behind it.
wrote_behind : (d : List ℕ) (n : ℕ) (s out : List ℕ) (r : ℕ) → Wrote d n s out r → take r out ≡ take n d ++ s
unfolding overwrite
wrote_behind d n s out r w =
    let room = w.room in
    let e : length (take n d ++ s) ≡ r = rw (length-append, length-take-le n d (omega arith)) (sym w.next) in
    rw w.text (take_at (take n d ++ s) (drop (n + length s) d) r e)

-- A key written to the front of a text ends in it.
pub packed-inside : (k : Key) (d text : List ℕ) (e : ℕ) → Packs k d text e → e ≤ length text
packed-inside k d text e put =
    let a : length (take e text) ≡ e = ap length put.front ∙ sym put.size in
    let b = length-take e text in
    omega arith

-- The key that is held, written so.
module _ (names lens : List ℕ) (depth n : ℕ) (d text : List ℕ) (e : ℕ) (packs : Packs (held_from n 0 names lens) d text e) (used : (n ≡ names_used depth) × (n ≤ 8)) where
  abbrev key : Key
  key = key_held depth names lens

  put : Packs key d text e
  put = rw (← used.0) packs

  key-many : length key ≡ n
  key-many = held-length (names_used depth) 0 names lens ∙ sym used.0

  text-is : take (e - 0) text ≡ packed key
  text-is = rw (from_start e) put.front

  -- It is looked up by its bytes, which stand whole.
  pub packed-whole : is_key key ≡ true → WholeKey (take (e - 0) text) 0 n (length (take (e - 0) text))
  packed-whole f =
      rw text-is
      (subst (λ (i : ℕ). WholeKey (packed key) 0 i (length (packed key))) key-many (whole-key (packed key) 0 key [] f (omega arith) (sym (append-nil (packed key)))))

  key-is : names_in n (take (e - 0) text) ≡ key
  key-is = rw text-is (ap (λ (i : ℕ). names_in i (packed key)) (sym key-many) ∙ ap (names_in (length key)) (sym (append-nil (packed key))) ∙ names-packed key [])

  pub end_planned : length d ≡ text_room → (ns bs index : List ℕ) (t : Pending) (x : Result ℕ ℕ) (p : Plan) → p ≡ plan_of x e (Some End)
      → is_ok x ≡ live (first_changes ns bs t.changes) (names_in n (take (e - 0) text)) → LooksUp ns bs index t (names_in n (take (e - 0) text)) x → EndPlanned ns bs index t key text p
  end_planned h ns bs index t x p q l u =
      rw q
      record {
        kind = refl;
        front = put.front;
        size = put.size;
        room = value-behind n names lens d text e packs used.1 h;
        live = l ∙ rw key-is;
        looked = rw key-is at u;
      }

-- An entity's value, written behind its key.
module _ (ns bs index : List ℕ) (t : Pending) (k : Key) (text : List ℕ) (p : Plan) (x : EndPlanned ns bs index t k text p) (v out : List ℕ) (e : ℕ) (u : Wrote text p.end v out e) where
  pub value-text : take e out ≡ packed k ++ v
  value-text = wrote_behind text p.end v out e u ∙ rw x.front

  pub value-order : p.end ≤ e
  value-order = let n = u.next in omega arith

  pub key-text : take p.end out ≡ packed k
  key-text = sym (take-take p.end e out value-order) ∙ rw value-text (take_at (packed k) v p.end (sym x.size))
