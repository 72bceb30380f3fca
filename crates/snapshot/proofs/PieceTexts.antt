-- The pieces of tags as the code writes them: the fixed texts by depth, and what they make together.
use mathlib.Core.Path.{◌≡◌, refl, sym, ◌∙◌}
use mathlib.Core.List.{List, [], ◌∷◌, ◌++◌, append_assoc}
use Prim.Native.Nat.{ℕ, ◌+◌, ◌-◌, ◌≤◌, ◌<◌}
use native.Mathlib.Omega.{arith}
use lib.ListN.{length, take, drop, get_or}
use Rattle.names.specs.Bytes.{bytes}
use Rattle.names.specs.Key.{Key}
use Rattle.names.specs.Pick.{pick}
use Rattle.names.specs.Text.{escapes, escape_by, escape}
use Rattle.store.specs.Change.{Value}
use Rattle.store.specs.code.Rows.{depth_at, key_at, value_at}
use Rattle.reader.specs.Element.{elements, element_at, attribute_at}
use Rattle.snapshot.specs.Print.{put_attr, put_attrs, put_end, put_tag}
use Rattle.snapshot.specs.Snapshot.{value_attr}
use Rattle.snapshot.specs.declared.writer.Output.{Output}
use Rattle.snapshot.specs.code.Writing.{Put, OwnAt, own_names_of, head_text, repeat_head, repeat_text, value_text, rest_text, row_text, close_text, closing_text}
use Rattle.snapshot.proofs.Emits.{◌▷◌, put_as, Remains, remains_then, remains_none}
use Rattle.snapshot.proofs.TagTexts.{open_text, rest-subject, rest-item, rest-other, repeat_some, repeat_none, closing-more, closing_none}

-- Texts that do not change, by depth.
module _ (d : ℕ) where
  pub head_subject : d ≡ 1 → bytes "<SubjectData SubjectKey=\"" ≡ head_text d
  unfolding head_text elements element_at attribute_at
  head_subject e = rw e

  pub head_event : d ≡ 2 → bytes "<StudyEventData StudyEventOID=\"" ≡ head_text d
  unfolding head_text elements element_at attribute_at
  head_event e = rw e

  pub head_form : d ≡ 3 → bytes "<FormData FormOID=\"" ≡ head_text d
  unfolding head_text elements element_at attribute_at
  head_form e = rw e

  pub head_group : d ≡ 4 → bytes "<ItemGroupData ItemGroupOID=\"" ≡ head_text d
  unfolding head_text elements element_at attribute_at
  head_group e = rw e

  pub head_item : d ≡ 5 → bytes "<ItemData ItemOID=\"" ≡ head_text d
  unfolding head_text elements element_at attribute_at
  head_item e = rw e

  pub repeat_event : d ≡ 2 → bytes "\" StudyEventRepeatKey=\"" ≡ repeat_head d
  unfolding repeat_head elements element_at attribute_at
  repeat_event e = rw e

  pub repeat_form : d ≡ 3 → bytes "\" FormRepeatKey=\"" ≡ repeat_head d
  unfolding repeat_head elements element_at attribute_at
  repeat_form e = rw e

  pub repeat_group : d ≡ 4 → bytes "\" ItemGroupRepeatKey=\"" ≡ repeat_head d
  unfolding repeat_head elements element_at attribute_at
  repeat_group e = rw e

  pub close_subject : d ≡ 1 → bytes "</SubjectData>\n" ≡ close_text d
  unfolding close_text put_tag put_end elements element_at
  close_subject e = rw e

  pub close_event : d ≡ 2 → bytes "</StudyEventData>\n" ≡ close_text d
  unfolding close_text put_tag put_end elements element_at
  close_event e = rw e

  pub close_form : d ≡ 3 → bytes "</FormData>\n" ≡ close_text d
  unfolding close_text put_tag put_end elements element_at
  close_form e = rw e

  pub close_group : d ≡ 4 → bytes "</ItemGroupData>\n" ≡ close_text d
  unfolding close_text put_tag put_end elements element_at
  close_group e = rw e

pub ruleset heads = (head_subject, head_event, head_form, head_group)

pub ruleset repeat-heads = (repeat_event, repeat_form)

pub ruleset closes-by-depth = (close_subject, close_event, close_form)

-- A repeat key, given or absent.
module _ (o : Output) (depth : ℕ) (s : List ℕ) where
  pub repeat_absent : (p : Output) → length s ≡ 0 → Put o p (bytes "\">\n") → Put o p (repeat_text depth s)
  repeat_absent p h w = rw (repeat_none depth s h) w

  pub repeat_given : (h : List ℕ) (p q r : Output) → (length s ≡ 0 → ⊥) → escape s ≡ s → h ≡ repeat_head depth → Put o p h → Put p q s → Put q r (bytes "\">\n") → Put o r (repeat_text depth s)
  repeat_given h p q r k e f u v w =
      let some : 0 < length s = omega arith in
      let t : h ++ s ++ bytes "\">\n" ≡ repeat_text depth s = rw f (sym (repeat_some depth s some ∙ rw e)) in
      put_as o r (h ++ s ++ bytes "\">\n") (repeat_text depth s) t (u ▷ v ▷ w)

pub ruleset repeats = (repeat_absent, repeat_given)

-- A value, given or null.
value-null-text : (v : Value) → length v ≡ 0 → bytes "\" IsNull=\"Yes\"/>\n" ≡ value_text v
unfolding value_text value_attr put_attrs put_attr put_end escape escape_by escapes pick
value-null-text [] h = refl
value-null-text (c ∷ v) h = absurd (omega arith)

value-given-text : (v : Value) → (length v ≡ 0 → ⊥) → bytes "\" Value=\"" ++ escape v ++ bytes "\"/>\n" ≡ value_text v
unfolding value_text value_attr put_attrs put_attr put_end
value-given-text [] h = absurd (h refl)
value-given-text (c ∷ v) h = append_assoc (bytes "\" Value=\"") (escape (c ∷ v)) (bytes "\"/>\n")

module _ (o : Output) (v : Value) where
  pub value-null : (p : Output) → length v ≡ 0 → Put o p (bytes "\" IsNull=\"Yes\"/>\n") → Put o p (value_text v)
  value-null p h w = put_as o p (bytes "\" IsNull=\"Yes\"/>\n") (value_text v) (value-null-text v h) w

  pub value-given : (p q r : Output) → (length v ≡ 0 → ⊥) → Put o p (bytes "\" Value=\"") → Put p q (escape v) → Put q r (bytes "\"/>\n") → Put o r (value_text v)
  value-given p q r h u e w = put_as o r (bytes "\" Value=\"" ++ escape v ++ bytes "\"/>\n") (value_text v) (value-given-text v h) (u ▷ e ▷ w)

pub ruleset values = (value-null, value-given)

-- What follows the first name, by depth.
module _ (o p : Output) (ns bs : List ℕ) (r depth : ℕ) (q : depth ≡ depth_at ns r) where
  pub rest_of_subject : depth ≡ 1 → Put o p (bytes "\">\n") → Put o p (rest_text (depth_at ns r) (own_names_of (depth_at ns r) (key_at ns bs r)) (value_at ns bs r))
  rest_of_subject h w = rw (rest-subject (depth_at ns r) (own_names_of (depth_at ns r) (key_at ns bs r)) (value_at ns bs r) (sym q ∙ h)) w

  pub rest_of_item : (v : Value) → depth ≡ 5 → v ≡ value_at ns bs r → Put o p (value_text v)
      → Put o p (rest_text (depth_at ns r) (own_names_of (depth_at ns r) (key_at ns bs r)) (value_at ns bs r))
  rest_of_item v h g w = rw (rest-item (depth_at ns r) (own_names_of (depth_at ns r) (key_at ns bs r)) (value_at ns bs r) (sym q ∙ h), ← g) w

  pub rest_of_other : (depth ≡ 1 → ⊥) → (depth ≡ 5 → ⊥) → Put o p (repeat_text (depth_at ns r) (get_or (own_names_of (depth_at ns r) (key_at ns bs r)) 1 []))
      → Put o p (rest_text (depth_at ns r) (own_names_of (depth_at ns r) (key_at ns bs r)) (value_at ns bs r))
  rest_of_other f g w =
      rw (rest-other (depth_at ns r) (own_names_of (depth_at ns r) (key_at ns bs r)) (value_at ns bs r) (λ z. f (q ∙ z)) (λ z. g (q ∙ z))) w

pub ruleset rests = (rest_of_subject, rest_of_item, rest_of_other)

-- A packed name in its place.
slice_is : (bs : List ℕ) (p s q : ℕ) → s ≡ p + 1 → q ≡ p + 1 + get_or bs p 0 → take (q - s) (drop s bs) ≡ take (get_or bs p 0) (drop (p + 1) bs)
slice_is bs p s q e f = let w : q - s ≡ get_or bs p 0 = omega arith in rw (w, e)

-- The whole opening tag.
pub row_put : (o u v w : Output) (ns bs : List ℕ) (r p s q depth : ℕ) (l : List ℕ) → OwnAt ns bs r p → s ≡ p + 1 → q ≡ p + 1 + get_or bs p 0 → depth ≡ depth_at ns r
    → l ≡ head_text depth → Put o u l → Put u v (take (q - s) (drop s bs))
    → Put v w (rest_text (depth_at ns r) (own_names_of (depth_at ns r) (key_at ns bs r)) (value_at ns bs r))
    → Put o w (row_text ns bs r)
unfolding row_text
row_put o u v w ns bs r p s q depth l a e f g k x y z =
    let own : Key = own_names_of (depth_at ns r) (key_at ns bs r) in
    let m : take (q - s) (drop s bs) ≡ escape (get_or own 0 []) = slice_is bs p s q e f ∙ a.name ∙ sym a.plain in
    let h : Put o u (head_text (depth_at ns r)) = rw (← g, ← k) x in
    let i : Put u v (escape (get_or own 0 [])) = rw (← m) y in
    put_as o w (head_text (depth_at ns r) ++ escape (get_or own 0 []) ++ rest_text (depth_at ns r) own (value_at ns bs r)) _
    (sym (open_text (depth_at ns r) own (value_at ns bs r))) (h ▷ i ▷ z)

-- Closing tags, one after another.
module _ (o : Output) (n j : ℕ) where
  pub closing-on : (k : ℕ) (l : List ℕ) (p q : Output) → Remains o p (closing_text n j) (closing_text k j) → j < k → l ≡ close_text (k - 1 + 1) → Put p q l
      → Remains o q (closing_text n j) (closing_text (k - 1) j)
  closing-on k l p q m h e w =
      let f : k - 1 + 1 ≡ k = omega arith in
      remains_then o p q (closing_text n j) (close_text k) (closing_text (k - 1) j) (closing_text k j) (closing-more k j h) m (rw (← f, ← e) w)

  pub closing_end : (k : ℕ) (p : Output) → Remains o p (closing_text n j) (closing_text k j) → k ≤ j → Put o p (closing_text n j)
  closing_end k p m h = remains_none o p (closing_text n j) (closing_text k j) (closing_none k j h) m

pub ruleset closing = (closing-on, closing_end)

-- Closing tags and the opening tag behind them.
pub entity_put : (o p q : Output) (ns bs : List ℕ) (r depth n : ℕ) → depth ≡ depth_at ns r → Put o p (closing_text n (depth - 1)) → Put p q (row_text ns bs r)
    → Put o q (closing_text n (depth_at ns r - 1) ++ row_text ns bs r)
entity_put o p q ns bs r depth n e u v = let w : Put o p (closing_text n (depth_at ns r - 1)) = rw e at u in w ▷ v
