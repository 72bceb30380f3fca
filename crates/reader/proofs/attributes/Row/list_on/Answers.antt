use Rattle.reader.proofs.Collect.{expected_own, untold-end, untold_extra, untold_own}
use Rattle.reader.proofs.attributes.Row.list_on.Goals as goal

pub loop-v-preserved-in-Ok : goal.loop-v-preserved-in-Ok
loop-v-preserved-in-Ok c = search expected_own

pub returns-in_default : goal.returns-in_default
returns-in_default c = search untold-end

pub loop-v-preserved : goal.loop-v-preserved
loop-v-preserved c = untold_extra _ _ _ _ _ _ _ _ c.loop-v.invariant _ c.expected_at.ensures _ c.in-Err.is _ c.attribute_at.ensures.result_value c.attribute_at.ensures.one_within _ c.in-Some.is c.args.self.now.in_table c.in-None.ensures

pub loop-v-preserved-in-Some-free_number : goal.loop-v-preserved-in-Some-free_number
loop-v-preserved-in-Some-free_number c = untold_own _ _ _ _ _ _ _ _ c.loop-v.invariant _ c.expected_at.ensures _ c.in-Err.is _ c.attribute_at.ensures.result_value c.attribute_at.ensures.one_within _ c.in-Some.is c.args.self.now.in_table _ c.in-Some-free_number.ensures
