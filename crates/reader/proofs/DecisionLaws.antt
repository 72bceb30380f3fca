-- What the word of an entity decides, as the code plans it.
use mathlib.Core.Path.{◌≡◌, refl, sym, subst, ◌∙◌}
use mathlib.Core.Bool.{Bool, true, false}
use mathlib.Core.List.{List, [], append-nil}
use Prim.Native.Nat.{ℕ, zero, suc, ◌-◌, ◌≤◌}
use native.Mathlib.Omega.{arith}
use Rattle.std.specs.Prelude.{Some, None, Result, Ok, Err, is_ok}
use Rattle.store.specs.declared.decide.Kind.TheVariants.{Make, Write, End}
use Rattle.store.specs.code.Refusals.{number_of, said}
use Rattle.store.proofs.Calls.Answers.{refused-accepted, accepted-same}
use Rattle.store.specs.declared.answer.Refusal.{Refusal}
use lib.Dec.{eqb}
use lib.ListN.{length, take}
use Rattle.names.specs.Bytes.{all}
use Rattle.names.specs.Key.{Key, depth_of, is_key, packed}
use Rattle.names.specs.code.Wrote.{Wrote}
use Rattle.names.specs.Name.{is_value, is_text_of}
use Rattle.names.specs.Pick.{pick, ◌and◌}
use Rattle.store.specs.Answer.{Answer, refused, accepted, ◌>>=◌}
use Rattle.store.specs.Change.{Kind, make, write, end, Change, change, Value, is_null, value_fits, is_change, kind_number, change_bytes, live}
use Rattle.store.specs.code.Deciding.{word_numbered}
use Rattle.store.specs.Machine.{Machine, allowed_by}
use Rattle.store.specs.code.Rows.{first_changes}
use Rattle.store.specs.code.Pending.{machine_of, added_at, Taking}
use Rattle.store.specs.Word.{Word, Decision, refuse, nothing, add, decide}
use Rattle.store.specs.declared.pending.Pending.{Pending}
use Rattle.reader.specs.Tell.{is_remove}
use Rattle.reader.specs.Judge.{adding, settled, effect, settle, closing}
use Rattle.reader.specs.code.Keeping.{KeyOfDepth, Fits}
use Rattle.reader.specs.code.EntityTags.{given_at, Endable}
use Rattle.reader.specs.code.Acting.{tag_value, tag_given, entity_changes, EntityOpens, plan_of, word_plan, EndPlanned, Plans, PlannedBy}
use Rattle.reader.specs.declared.act.Plan.{Plan}
use Rattle.reader.specs.declared.body.Content.{Content}
use Rattle.reader.specs.declared.cursor.TagRead.{TagRead}
use Rattle.reader.proofs.Invariant.{Says, says}
use Rattle.reader.proofs.ElementKeys.{depth_used}
use Rattle.reader.proofs.EntityLaws.{given-has, wrote_inside, value-text, value-order, key-text}
use Rattle.reader.proofs.ActAnswers.{planned_rests, planned_adds}

-- The change that a decision adds is of its form and allowed.
module _ (past : List Change) (d : ℕ) (k : Key) (v : Value) (g : Bool) (f : Fits past d k v g) where
  make-formed : is_change (change make k v) ≡ true
  unfolding is_change value_fits ◌and◌
  make-formed = rw (f.key.0, f.value) f.null

  make-allowed : live past k ≡ false → allowed_by make past k ≡ true
  unfolding allowed_by ◌and◌
  make-allowed l = rw l f.parent

  write-formed : g ≡ true → is_change (change write k v) ≡ true
  unfolding is_change value_fits ◌and◌
  write-formed e = rw (f.key.0, f.value) (f.given e)

end-formed : (k : Key) → is_key k ≡ true → is_change (change end k []) ≡ true
unfolding is_change value_fits is_null is_value is_text_of all ◌and◌
end-formed k e = rw e

-- An entity's end may be added, whose key's bytes stand in a text.
pub end-plans : (a : Answer (List Change)) (ns bs index : List ℕ) (t : Pending) (depth : ℕ) (k : Key) (text : List ℕ) (p : Plan)
    → EndPlanned ns bs index t k text p → (out : List ℕ) → take p.end out ≡ packed k → p.end ≤ length out → Endable (first_changes ns bs t.changes) depth k
    → a ≡ adding (machine_of ns bs) (added_at ns bs t.changes) (change end k []) → Plans a ns bs index t depth out p
unfolding kind_number allowed_by
end-plans a ns bs index t depth k text p x out front high y is =
    let key-is = keyed depth y.low y.key in
    planned_adds a ns bs index t depth out p (change end k []) End (end-formed k key-is.0) x.kind refl key-is.1 end-text high y.live x.looked is
  where
    keyed : (l : ℕ) → 1 ≤ l → KeyOfDepth l k → (is_key k ≡ true) × (depth_of k ≡ l)
    keyed zero h y = absurd (omega arith)
    keyed (suc l) h y = (y.0, depth_used k l y.2 y.1)

    end-text : change_bytes (change end k []) ≡ take p.end out
    end-text = unfold change_bytes in rw append-nil (sym front)

-- A change added, and nothing else, is added by the tag that opens the element and by the one that also closes it.
then_same : (m : Machine) (k : Key) (b : Bool) (y : Answer (List Change))
    → (y >>= (λ ds. accepted (settled ds false)) >>= λ d. pick b (accepted d.changes) (closing m d.changes k d.ending)) ≡ y
unfolding ◌>>=◌ pick closing
then_same m k b (refused n) = refl
then_same m k true (accepted ds) = refl
then_same m k false (accepted ds) = refl

-- The plan of an entity's opening tag.
module _ (ns bs index : List ℕ) (t : Pending) (s : List ℕ) (g : TagRead) (c : Content) (kind word depth : ℕ) (k : Key) (taking : Taking ns bs index t)
    (o : EntityOpens (first_changes ns bs t.changes) s g c depth k) (text : List ℕ) (p : Plan) (x : EndPlanned ns bs index t k text p) (out : List ℕ) (e : ℕ)
    (u : Wrote text p.end (tag_value s g c) out e) where
  abbrev m : Machine
  m = machine_of ns bs

  abbrev cs : List Change
  cs = added_at ns bs t.changes

  abbrev past : List Change
  past = first_changes ns bs t.changes

  abbrev v : Value
  v = tag_value s g c

  abbrev w : Word
  w = word_numbered word

  abbrev tells : Answer (List Change)
  tells = entity_changes m cs kind k v (tag_given s g) w

  abbrev By : Result Plan Refusal → Type 0
  By r = PlannedBy tells ns bs index t depth out r

  -- What an answer plans, by the code's result.
  by_plan : (q : Plan) → Plans tells ns bs index t depth out q → (r : Result Plan Refusal) → said r ≡ accepted q → By r
  by_plan q h (Ok r) e = rw (accepted-same e) h
  by_plan q h (Err j) e = absurd (refused-accepted (number_of j) q e)

  by_refusal : (n : ℕ) → tells ≡ refused n → (r : Result Plan Refusal) → said r ≡ refused n → By r
  by_refusal n h (Ok r) e = absurd (refused-accepted n r (sym e))
  by_refusal n h (Err j) e = let q : number_of j ≡ n = cc in rw q h

  deep : depth_of k ≡ depth
  deep =
      let q = depth_used k (depth - 1) o.fits.key.2 o.fits.key.1 in
      let h = o.low in
      omega arith

  high : e ≤ length out
  high = wrote_inside text p.end v out e u

  text-is : (a : Kind) → change_bytes (change a k v) ≡ take e out
  unfolding change_bytes
  text-is a = sym (value-text ns bs index t k text p x v out e u)

  -- By what is decided.
  by_decision : (y : Decision) → decide w (live past k) (tag_given s g) ≡ y → Says y (is_remove w) (live past k) (tag_given s g) → (r : Result Plan Refusal) → said r ≡ word_plan y p kind e → By r
  by_decision y q = go y (unfold settle in rw (← taking.loaded.joined, q))
    where
      tells_by : (y : Decision) → settle m cs k v (tag_given s g) w ≡ effect m cs k v y
          → tells ≡ (effect m cs k v y >>= λ d. pick (eqb kind 0) (accepted d.changes) (closing m d.changes k d.ending))
      tells_by y is = unfold entity_changes in rw is

      go : (y : Decision) → settle m cs k v (tag_given s g) w ≡ effect m cs k v y → Says y (is_remove w) (live past k) (tag_given s g) → (r : Result Plan Refusal) → said r ≡ word_plan y p kind e → By r
      go (refuse n) is h r z = by_refusal n (tells_by (refuse n) is ∙ (unfold effect ◌>>=◌ in refl)) r (unfold word_plan in z)
      go nothing is h r z = by_plan _ (planned_rests tells ns bs index t depth out (plan_of p.lookup 0 None) refl (tells_by nothing is ∙ still (eqb kind 0))) r (unfold word_plan in z)
        where
          still : (b : Bool) → (effect m cs k v nothing >>= λ d. pick b (accepted d.changes) (closing m d.changes k d.ending)) ≡ accepted cs
          still true = unfold effect ◌>>=◌ pick in refl
          still false = unfold effect ◌>>=◌ pick closing in refl
      go (add make) is h r z =
          by_plan _
          (planned_adds tells ns bs index t depth out (plan_of p.lookup e (Some Make)) (change make k v) Make (make-formed past _ k v _ o.fits) refl refl deep (text-is make) high
          (make-allowed past _ k v _ o.fits h.1) x.looked (tells_by (add make) is ∙ (unfold effect in then_same m k (eqb kind 0) (adding m cs (change make k v)))))
          r (unfold word_plan in z)
      go (add write) is h r z =
          by_plan _
          (planned_adds tells ns bs index t depth out (plan_of p.lookup e (Some Write)) (change write k v) Write (write-formed past _ k v _ o.fits h.2) refl refl deep (text-is write) high
          (unfold allowed_by in h.1) x.looked (tells_by (add write) is ∙ (unfold effect in then_same m k (eqb kind 0) (adding m cs (change write k v)))))
          r (unfold word_plan in z)
      go (add end) is h r z = by_kind (eqb kind 0) (unfold word_plan in z) (tells_by (add end) is)
        where
          by_kind : (b : Bool) → said r ≡ accepted (pick b (plan_of p.lookup 0 None) p)
              → tells ≡ (effect m cs k v (add end) >>= λ d. pick b (accepted d.changes) (closing m d.changes k d.ending)) → By r
          by_kind true z y = by_plan _ (planned_rests tells ns bs index t depth out (plan_of p.lookup 0 None) refl (y ∙ (unfold effect ◌>>=◌ pick in refl))) r (unfold pick in z)
          by_kind false z y =
              let low = o.low in
              let one : depth ≡ suc (depth - 1) = omega arith in
              let order = value-order ns bs index t k text p x v out e u in
              let top = high in
              by_plan p (end-plans tells ns bs index t depth k text p x out (key-text ns bs index t k text p x v out e u) (omega arith)
              record { low = low; key = subst (λ (i : ℕ). KeyOfDepth i k) (sym one) o.fits.key; live = h.1 } (y ∙ (unfold effect ◌>>=◌ pick closing in refl))) r (unfold pick in z)

  pub entity_planned : (b : Bool) → b ≡ given_at g.element g.found.starts → (r : Result Plan Refusal) → said r ≡ word_plan (decide w (is_ok p.lookup) b) p kind e → By r
  entity_planned b z0 r z =
      let gave : b ≡ tag_given s g = z0 ∙ given-has s g o.row o.attributed o.placed in
      by_decision (decide w (live past k) (tag_given s g)) refl (says w (live past k) _) r (z ∙ rw (x.live, gave))
