use Rattle.std.specs.Prelude.{◌≡◌, ℕ, Option, None, Result, Err, ok_or}
use Rattle.std.proofs.lemmas.Result.{err_from_is_err_and}
use Rattle.names.specs.declared.text.DecodeError.{DecodeError}
use Rattle.names.specs.declared.text.DecodeError.TheVariants.{Broken}
use Rattle.names.proofs.Decode.{behind-fits, behind-less, decoding_none, decoding_more, decoding_broken, decoding_too_long, decoding_all}
use Rattle.names.proofs.Within.{reach_same}
use Rattle.names.proofs.text.decode.Goals as goal

broken_told : (r : Option (ℕ × ℕ)) (e : DecodeError) → r ≡ None → Err e ≡ ok_or r Broken → e ≡ Broken
broken_told r e n f = let g : ◌≡◌ {A = Result (ℕ × ℕ) DecodeError} (Err e) (Err Broken) = rw n at f in cc

pub loop-i-init : goal.loop-i-init
loop-i-init c = decoding_none _ _

pub returns-in_err-b : goal.returns-in_err-b
returns-in_err-b c =
    let p = err_from_is_err_and c.from_residual.result c.from_residual.ensures.1 in
    let e = broken_told _ _ c.in_err-b.ensures.ok_part c.in_err-b.ensures.value in
    rw (p.1, p.2, e) record { result_after = decoding_broken _ _ _ _ _ c.loop-i.invariant _ c.loop-i-test.true c.piece_at.ensures c.in_err-b.ensures.ok_part; decodes_within = tt }

pub overflow_add-i : goal.overflow_add-i
overflow_add-i c = behind-fits c.args.s.now _ c.loop-i-test.true _ c.piece_at.ensures _ _ c.in_ok-b.ensures.ok_part c.well_formed.0.1

pub loop-i-smaller : goal.loop-i-smaller
loop-i-smaller c = behind-less c.args.s.now _ c.loop-i-test.true _ c.piece_at.ensures _ _ c.in_ok-b.ensures.ok_part

pub loop-i-preserved : goal.loop-i-preserved
loop-i-preserved c = decoding_more _ _ _ _ _ c.loop-i.invariant _ _ _ _ c.put_byte.ensures c.loop-i-test.true c.piece_at.ensures c.in_ok-b.ensures.ok_part

pub returns-else-n-out : goal.returns-else-n-out
returns-else-n-out c = record { result_after = decoding_too_long _ _ _ _ _ c.loop-i.invariant c.loop-i-test.false c.if-n-out.false; decodes_within = tt }

pub returns-then-n-out : goal.returns-then-n-out
returns-then-n-out c = let v = c.loop-i.invariant in record { result_after = decoding_all _ _ _ _ _ v c.loop-i-test.false c.if-n-out.true; decodes_within = reach_same c.if-n-out.true v.size }
