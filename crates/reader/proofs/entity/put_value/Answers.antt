use mathlib.Core.Path.{refl}
use Rattle.reader.proofs.EntityLaws.{value_none, value-absent, alone_room, alone_put, value-put, value_refused}
use Rattle.reader.proofs.entity.put_value.Goals as goal

pub returns-then-t-ne6 : goal.returns-then-t-ne6
returns-then-t-ne6 c = value_none c.args.s.now c.args.t c.requires.le_element.0 c.requires.attributed c.requires.placed c.args.out.now c.args.at c.requires.le_element.1 c.if-t-ne6.true

pub returns-then-found-eq0 : goal.returns-then-found-eq0
returns-then-found-eq0 c = value-absent c.args.s.now c.args.t c.requires.le_element.0 c.requires.attributed c.requires.placed c.args.out.now c.args.at c.requires.le_element.1 c.if-t-ne6.false c.if-found-eq0.true

pub put_bytes-requires : goal.put_bytes-requires
put_bytes-requires c = alone_room c.args.s.now c.args.t c.requires.le_element.0 c.requires.attributed c.requires.placed c.args.out.now c.args.at c.requires.le_element.1 c.if-t-ne6.false c.if-found-eq0.false c.attribute_text-v.result.now c.attribute_text-v.ensures _ c.all_alone.ensures c.if-all_alone.true

pub returns-then-all_alone : goal.returns-then-all_alone
returns-then-all_alone c = alone_put c.args.s.now c.args.t c.requires.le_element.0 c.requires.attributed c.requires.placed c.args.out.now c.args.at c.requires.le_element.1 c.if-t-ne6.false c.if-found-eq0.false c.attribute_text-v.result.now c.attribute_text-v.ensures _ c.all_alone.ensures c.if-all_alone.true _ _ c.put_bytes.ensures

pub returns-in-Ok : goal.returns-in-Ok
returns-in-Ok c = value-put c.args.s.now c.args.t c.requires.le_element.0 c.requires.attributed c.requires.placed c.args.out.now c.args.at c.requires.le_element.1 c.if-t-ne6.false c.if-found-eq0.false c.attribute_text-v.result.now c.attribute_text-v.ensures 40 c.decode.new.out c.decode.result refl c.decode.ensures.result_after c.in-Ok.n c.put_bytes-in-Ok.new.out c.put_bytes-in-Ok.result c.in-Ok.is c.put_bytes-in-Ok.ensures

pub returns-in-Err : goal.returns-in-Err
returns-in-Err c = value_refused c.args.s.now c.args.t c.requires.le_element.0 c.requires.attributed c.requires.placed c.args.out.now c.args.at c.requires.le_element.1 c.if-t-ne6.false c.if-found-eq0.false c.attribute_text-v.result.now c.attribute_text-v.ensures 40 c.decode.new.out c.decode.result refl c.decode.ensures.result_after _ c.in-Err.is
