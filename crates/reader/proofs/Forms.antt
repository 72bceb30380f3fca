-- A well placed tag: its element, and its attributes each of its form.
use mathlib.Core.Path.{◌≡◌, refl, sym, ap, subst, ◌∙◌}
use mathlib.Core.List.{List, [], ◌∷◌}
use mathlib.Core.Bool.{Bool, true, false, not, ◌||◌, false≢true}
use mathlib.Core.Option.{Option, none, some}
use Prim.Native.Nat.{ℕ, zero, suc, ◌≤◌, ◌<◌}
use native.Mathlib.Omega.{arith}
use native.Mathlib.Nat.{not-suc-le-zero}
use lib.Dec.{eqb, leb, ltb}
use lib.ListN.{length, get_or}
use borrow.Author.Tests.{eqb-true, eqb-false, eq-eqb, ne_eqb, leb-true, ltb-true, lt-ltb}
use Rattle.names.specs.Bytes.{bytes, all, any}
use Rattle.names.specs.Key.{is_repeat, are_levels, own_names}
use Rattle.names.specs.Name.{is_text_of, is_value}
use Rattle.names.specs.Order.{same, alike}
use Rattle.names.specs.Pick.{pick, ◌and◌}
use Rattle.names.proofs.Tests.{and_l, and_r, or_true, not_then}
use Rattle.names.proofs.Ordered.{same_eq}
use Rattle.store.specs.Change.{is_null}
use Rattle.store.specs.Answer.{accepted}
use Rattle.store.proofs.Calls.Answers.{accepted-same, bind_accepted, both-accepted, unless-accepted, present-accepted}
use Rattle.reader.specs.Tag.{Attr, has}
use Rattle.reader.specs.Element.{Form, name, word, value, integer, float, day, date, Attribute, Element, elements, element_at, attribute_at, next, element_in, element_of, item, may_stand, has_form, body_fits, get, or_else, known, complete, formed_by, formed, well_placed}
use Rattle.reader.specs.Judge.{value_by, given_by}
use Rattle.reader.specs.code.Placed.{Placed, Bodied}
use Rattle.reader.specs.code.Places.{is_some}

pub element-below : (es : List Element) (n : List ℕ) (l : ℕ) → element_in es n ≡ some l → l < length es
unfolding element_in pick next
element-below [] n l e = let z : ◌≡◌ {A = ℕ} 0 1 = cc in omega arith
element-below (x ∷ es) n l e = go (same x.name n) (element_in es n) refl (element-below es n) e
  where
    go : (b : Bool) (o : Option ℕ) → element_in es n ≡ o → ((k : ℕ) → element_in es n ≡ some k → k < length es) → pick b (some 0) (next o) ≡ some l → l < suc (length es)
    go true o p ih e = let z : ◌≡◌ {A = ℕ} 0 l = cc in omega arith
    go false none p ih e = let z : ◌≡◌ {A = ℕ} 0 1 = cc in omega arith
    go false (some k) p ih e = let z : ◌≡◌ {A = ℕ} (suc k) l = cc in let h = ih k p in omega arith

-- A tag that was taken: its element may stand there, and its attributes passed.
module _ (items : Option Bool) (level : ℕ) (n : List ℕ) (as' : List Attr) (e : ℕ) (taken : well_placed items level n as' ≡ accepted e) where
  pub placed-both : Placed e as' × (may_stand level e ≡ true)
  unfolding well_placed element_of elements
  placed-both =
      let l = bind_accepted _ _ e taken in
      let a = both-accepted _ _ e l.2 in
      let b = both-accepted _ _ a.0 a.1 in
      let c = both-accepted _ _ b.0 b.1 in
      let d = both-accepted _ _ c.0 c.1 in
      let z : l.0 ≡ e = accepted-same a.2 in
      let below : l.0 < 12 = element-below elements n l.0 (present-accepted _ 5 l.0 l.1) in
      let attributes = unless-accepted _ 6 c.0 d.2 in
      let forms = unless-accepted _ 7 a.0 b.2 in
      subst (λ (k : ℕ). Placed k as' × (may_stand level k ≡ true)) z
      (record { deep = below; known' = and_l _ _ attributes; complete' = and_r _ _ attributes; formed' = and_l _ _ forms }, unless-accepted _ 5 d.0 d.1)

  pub placed-named : is_some (element_of n) ≡ true
  unfolding well_placed is_some
  placed-named = let l = bind_accepted _ _ e taken in rw (present-accepted _ 5 l.0 l.1)

  pub placed : Placed e as'
  placed = placed-both.0

  pub stands : may_stand level e ≡ true
  stands = placed-both.1

-- Only the element of a level's number may stand there, and where items stand, any of them.
module _ (level e : ℕ) (h : may_stand level e ≡ true) where
  stands_by : (b : Bool) → eqb level item ≡ b → pick b (leb item e) (ltb level item and eqb e level) ≡ true → (level ≤ item) × (level < item → e ≡ level) × (level ≡ item → item ≤ e)
  unfolding pick
  stands_by true c g = let z = eqb-true level item c in (omega arith, (λ q. absurd (omega arith)), λ q. leb-true item e g)
  stands_by false c g =
      let below : level < item = ltb-true level item (and_l _ _ g) in
      (omega arith, (λ q. eqb-true e level (and_r (ltb level item) _ g)), λ q. absurd (omega arith))

  stands-all : (level ≤ item) × (level < item → e ≡ level) × (level ≡ item → item ≤ e)
  unfolding may_stand
  stands-all = stands_by (eqb level item) refl h

  pub stands-few : level ≤ item
  stands-few = stands-all.0

  pub stands_at : level < item → e ≡ level
  stands_at = stands-all.1

  pub stands-item : level ≡ item → item ≤ e
  stands-item = stands-all.2

pub stands_self : (level : ℕ) → level < item → may_stand level level ≡ true
unfolding may_stand pick ◌and◌
stands_self level h = rw (ne_eqb level item (λ e. omega arith), lt-ltb level item h, eq-eqb level level refl)

-- An attribute is among those of a tag exactly where it has a value.
abbrev there : Option (List ℕ) → Bool
there none = false
there (some v) = true

has_there : (n : List ℕ) (as' : List Attr) → has n as' ≡ there (get n as')
unfolding has any get pick
has_there n [] = refl
has_there n (a ∷ as') = go (same n a.name) (has_there n as')
  where
    go : (b : Bool) → has n as' ≡ there (get n as') → (b || has n as') ≡ there (pick b (some a.value) (get n as'))
    go true e = refl
    go false e = e

filled : (f : Form) (o : Option (List ℕ)) → there o ≡ true → formed_by f o ≡ true → has_form f (or_else [] o) ≡ true
unfolding formed_by or_else
filled f none e g = absurd (false≢true e)
filled f (some v) e g = g

all-at : {A : Type 0} (p : A → Bool) (xs : List A) (i : ℕ) (d : A) → all p xs ≡ true → i < length xs → p (get_or xs i d) ≡ true
unfolding all
all-at p [] i d e h = absurd (not-suc-le-zero h)
all-at p (x ∷ xs) zero d e h = and_l (p x) _ e
all-at p (x ∷ xs) (suc i) d e h = all-at p xs i d (and_r (p x) _ e) (omega arith)

abbrev no_row : Attribute
no_row = record { name = []; required = false; form = name }

abbrev row_at : ℕ → ℕ → Attribute
row_at level i = get_or (element_at level).attributes i no_row

module _ (level : ℕ) (as' : List Attr) (p : Placed level as') (i : ℕ) (f : Form) (is_row : i < length (element_at level).attributes) (has-form : (row_at level i).form ≡ f) where
  -- Where it is there, it has its form;
  pub formed-at : formed_by f (get (attribute_at level i) as') ≡ true
  unfolding formed attribute_at
  formed-at = rw (← has-form) (all-at (λ r. formed_by r.form (get r.name as')) (element_at level).attributes i no_row p.formed' is_row)

  -- a required one is there.
  pub required-at : (row_at level i).required ≡ true → has_form f (or_else [] (get (attribute_at level i) as')) ≡ true
  unfolding complete attribute_at
  required-at r =
      let e = all-at (λ r. not r.required || has r.name as') (element_at level).attributes i no_row p.complete' is_row in
      filled f (get (attribute_at level i) as') (sym (has_there (attribute_at level i) as') ∙ rw r at e) formed-at

-- An attribute that the table does not give the element is not there.
module _ (rows : List Attribute) (n : List ℕ) (no_row : any (λ r. same r.name n) rows ≡ false) where
  not_known : (as' : List Attr) → known rows as' ≡ true → has n as' ≡ false
  unfolding known all has any
  not_known [] k = refl
  not_known (a ∷ as') k =
      let other : same n a.name ≡ false = not_then _ (λ e. false≢true (sym no_row ∙ rw (same_eq n a.name e) (and_l _ _ k))) in
      rw other (not_known as' (and_r _ _ k))

pub not_there : (level : ℕ) (as' : List Attr) (n : List ℕ) → Placed level as' → any (λ r. same r.name n) (element_at level).attributes ≡ false → has n as' ≡ false
not_there level as' n p e = not_known (element_at level).attributes n e as' p.known'

pub none_there : (n : List ℕ) (as' : List Attr) → has n as' ≡ false → get n as' ≡ none
none_there n as' e = go (get n as') (sym (has_there n as') ∙ e)
  where
    go : (o : Option (List ℕ)) → there o ≡ false → o ≡ none
    go none e = refl
    go (some v) e = absurd (false≢true (sym e))

-- The rows of the typed items: alike in their attributes.
abbrev pub typed_row : List Attribute
typed_row = record { name = bytes "ItemOID"; required = true; form = name } ∷ record { name = bytes "TransactionType"; required = false; form = word } ∷ []

pub typed-row : (e : ℕ) → item < e → e < 12 → ((element_at e).attributes ≡ typed_row) × ((f : Form) × ((element_at e).body ≡ some f))
unfolding element_at elements
typed-row zero h g = absurd (omega arith)
typed-row (suc zero) h g = absurd (omega arith)
typed-row (suc (suc zero)) h g = absurd (omega arith)
typed-row (suc (suc (suc zero))) h g = absurd (omega arith)
typed-row (suc (suc (suc (suc zero)))) h g = absurd (omega arith)
typed-row (suc (suc (suc (suc (suc zero))))) h g = absurd (omega arith)
typed-row (suc (suc (suc (suc (suc (suc zero)))))) h g = absurd (omega arith)
typed-row (suc (suc (suc (suc (suc (suc (suc zero))))))) h g = (refl, (value, refl))
typed-row (suc (suc (suc (suc (suc (suc (suc (suc zero)))))))) h g = (refl, (integer, refl))
typed-row (suc (suc (suc (suc (suc (suc (suc (suc (suc zero))))))))) h g = (refl, (float, refl))
typed-row (suc (suc (suc (suc (suc (suc (suc (suc (suc (suc zero)))))))))) h g = (refl, (day, refl))
typed-row (suc (suc (suc (suc (suc (suc (suc (suc (suc (suc (suc zero))))))))))) h g = (refl, (date, refl))
typed-row (suc (suc (suc (suc (suc (suc (suc (suc (suc (suc (suc (suc e)))))))))))) h g = absurd (omega arith)

item-first : bytes "ItemOID" ≡ attribute_at 6 0
unfolding attribute_at element_at elements
item-first = refl

-- The first attribute of each is that of ItemData.
pub typed-first : (e : ℕ) → (element_at e).attributes ≡ typed_row → attribute_at e 0 ≡ attribute_at 6 0
unfolding attribute_at
typed-first e row = named row ∙ item-first
  where
    named : (element_at e).attributes ≡ typed_row → attribute_at e 0 ≡ bytes "ItemOID"
    named row = ap (λ (rows : List Attribute). (get_or rows 0 no_row).name) row

-- No other element has a body.
pub untyped_body : (e : ℕ) → e ≤ item → (element_at e).body ≡ none
unfolding element_at elements
untyped_body zero h = refl
untyped_body (suc zero) h = refl
untyped_body (suc (suc zero)) h = refl
untyped_body (suc (suc (suc zero))) h = refl
untyped_body (suc (suc (suc (suc zero)))) h = refl
untyped_body (suc (suc (suc (suc (suc zero))))) h = refl
untyped_body (suc (suc (suc (suc (suc (suc zero)))))) h = refl
untyped_body (suc (suc (suc (suc (suc (suc (suc e))))))) h = absurd (omega arith)

-- The attributes and the body of an entity's element: its own names of their forms, and a value of its form that only an item may have.
pub record EntityForms (depth : ℕ) (form : Option Form) (as' : List Attr) (b : List ℕ) : Type 0 where
  pub names : are_levels (own_names depth (or_else [] (get (attribute_at (suc depth) 0) as')) (or_else [] (get (attribute_at (suc depth) 1) as'))) ≡ true
  pub value' : is_value (value_by form as' b) ≡ true
  pub null : (eqb depth 5 || is_null (value_by form as' b)) ≡ true
  pub given : given_by form as' ≡ true → eqb depth 5 ≡ true

absent_or_name : (o : Option (List ℕ)) → formed_by name o ≡ true → is_repeat (or_else [] o) ≡ true
unfolding formed_by has_form or_else is_repeat
absent_or_name none e = refl
absent_or_name (some []) e = refl
absent_or_name (some (c ∷ s)) e = e

null_or_value : (o : Option (List ℕ)) → formed_by value o ≡ true → is_value (or_else [] o) ≡ true
unfolding formed_by has_form or_else is_value is_text_of all ◌and◌
null_or_value none e = refl
null_or_value (some v) e = e

-- A body that fits is a value.
pub body-value : (f : Form) (b : List ℕ) → body_fits f b ≡ true → is_value b ≡ true
unfolding body_fits is_null is_value is_text_of all ◌and◌
body-value f [] h = refl
body-value f (c ∷ b) h = and_l _ _ h

module _ (as' : List Attr) (b : List ℕ) where
  -- An entity that is no item.
  valueless : (d : ℕ) → Placed (suc d) as' → any (λ r. same r.name (bytes "Value")) (element_at (suc d)).attributes ≡ false
      → any (λ r. same r.name (bytes "IsNull")) (element_at (suc d)).attributes ≡ false
      → are_levels (own_names d (or_else [] (get (attribute_at (suc d) 0) as')) (or_else [] (get (attribute_at (suc d) 1) as'))) ≡ true
      → EntityForms d none as' b
  unfolding is_value is_text_of all ◌and◌ is_null or_else value_by given_by
  valueless d p v u l =
      let no_value : has (bytes "Value") as' ≡ false = not_there (suc d) as' (bytes "Value") p v in
      let no-null : has (bytes "IsNull") as' ≡ false = not_there (suc d) as' (bytes "IsNull") p u in
      let g : get (bytes "Value") as' ≡ none = none_there (bytes "Value") as' no_value in
      record { names = l; value' = rw g; null = rw g (or_true (eqb d 5)); given = λ e. absurd (false≢true (rw (no_value, no-null) at e)) }

  -- A study event, a form or an item group.
  repeating : (level : ℕ) → Placed level as' → 1 < length (element_at level).attributes
      → (row_at level 0).form ≡ name → (row_at level 0).required ≡ true → (row_at level 1).form ≡ name
      → are_levels (or_else [] (get (attribute_at level 0) as') ∷ or_else [] (get (attribute_at level 1) as') ∷ []) ≡ true
  unfolding are_levels ◌and◌ has_form
  repeating level p h f r g =
      rw (required-at level as' p 0 name (omega arith) f r, absent_or_name (get (attribute_at level 1) as') (formed-at level as' p 1 name h g))

  untyped : Placed 6 as' → EntityForms 5 none as' b
  unfolding element_at elements attribute_at own_names pick are_levels has_form value_by
  untyped p = record {
    names = required-at 6 as' p 0 name (omega arith) refl refl;
    value' = null_or_value (get (bytes "Value") as') (formed-at 6 as' p 1 value (omega arith) refl);
    null = refl;
    given = λ e. refl;
  }

  typed-names : (e : ℕ) → (element_at e).attributes ≡ typed_row → Placed e as'
      → are_levels (own_names 5 (or_else [] (get (attribute_at 6 0) as')) (or_else [] (get (attribute_at 6 1) as'))) ≡ true
  typed-names e row p =
      let many : 2 ≡ length (element_at e).attributes = rw row in
      let first = required-at e as' p 0 name (omega arith) (rw row) (rw row) in
      own (rw (typed-first e row) at first)
    where
      own : has_form name (or_else [] (get (attribute_at 6 0) as')) ≡ true
          → are_levels (own_names 5 (or_else [] (get (attribute_at 6 0) as')) (or_else [] (get (attribute_at 6 1) as'))) ≡ true
      own h = unfold own_names pick are_levels has_form in h

  typed : (e : ℕ) (f : Form) → item < e → Placed e as' → body_fits f b ≡ true → EntityForms 5 (some f) as' b
  unfolding value_by
  typed e f h p fits = record {
    names = typed-names e (typed-row e h p.deep).0 p;
    value' = body-value f b fits;
    null = refl;
    given = λ g. refl;
  }

  items : (e : ℕ) → item ≤ e → Placed e as' → Bodied (element_at e).body b → EntityForms 5 (element_at e).body as' b
  items e h p fits = by (eqb e item) refl
    where
      by : (t : Bool) → eqb e item ≡ t → EntityForms 5 (element_at e).body as' b
      by true c = let z = eqb-true e item c in rw (z, untyped_body 6 (omega arith)) (untyped (rw z at p))
      by false c =
          let above : item < e = let n = eqb-false e item c in omega arith in
          let row = (typed-row e above p.deep).1 in
          rw row.1 (typed e row.0 above p (rw row.1 at fits))

outer_forms : (as' : List Attr) (b : List ℕ) (d : ℕ) → suc (suc d) < item → Placed (suc (suc d)) as' → EntityForms (suc d) none as' b
unfolding element_at elements any same alike ◌and◌ own_names pick are_levels has_form
outer_forms as' b zero h p = valueless as' b 1 p refl refl (required-at 2 as' p 0 name (omega arith) refl refl)
outer_forms as' b (suc zero) h p = valueless as' b 2 p refl refl (repeating as' b 3 p (omega arith) refl refl refl)
outer_forms as' b (suc (suc zero)) h p = valueless as' b 3 p refl refl (repeating as' b 4 p (omega arith) refl refl refl)
outer_forms as' b (suc (suc (suc zero))) h p = valueless as' b 4 p refl refl (repeating as' b 5 p (omega arith) refl refl refl)
outer_forms as' b (suc (suc (suc (suc d)))) h p = absurd (omega arith)

-- An element below ClinicalData that was taken.
pub entry : (d e : ℕ) (as' : List Attr) (b : List ℕ) → may_stand (suc (suc d)) e ≡ true → Placed e as' → Bodied (element_at e).body b → EntityForms (suc d) (element_at e).body as' b
entry d e as' b m p fits = by d (stands-few (suc (suc d)) e m) (stands_at (suc (suc d)) e m) (stands-item (suc (suc d)) e m)
  where
    by : (d : ℕ) → suc (suc d) ≤ item → (suc (suc d) < item → e ≡ suc (suc d)) → (suc (suc d) ≡ item → item ≤ e) → EntityForms (suc d) (element_at e).body as' b
    by d few row inner = go (eqb d 4) refl
      where
        go : (t : Bool) → eqb d 4 ≡ t → EntityForms (suc d) (element_at e).body as' b
        go true c = let z : d ≡ 4 = eqb-true d 4 c in rw z (items as' b e (inner (omega arith)) p fits)
        go false c =
            let below : suc (suc d) < item = let n = eqb-false d 4 c in omega arith in
            rw (row below, untyped_body (suc (suc d)) few) (outer_forms as' b d below (rw (row below) at p))
