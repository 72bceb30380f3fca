use Rattle.reader.proofs.WordLaws.{number-insert, number-update, number-upsert, number-remove, number-context, number_none}
use Rattle.reader.proofs.open_elements.word_number.Goals as goal

pub returns-then-same_bytes : goal.returns-then-same_bytes
returns-then-same_bytes c = number-insert c.args.v.now c.same_bytes.result c.same_bytes.ensures c.if-same_bytes.true

pub returns-then-same_bytes-2 : goal.returns-then-same_bytes-2
returns-then-same_bytes-2 c = number-update c.args.v.now c.same_bytes.result c.same_bytes.ensures c.if-same_bytes.false c.same_bytes-2.result c.same_bytes-2.ensures c.if-same_bytes-2.true

pub returns-then-same_bytes-3 : goal.returns-then-same_bytes-3
returns-then-same_bytes-3 c = number-upsert c.args.v.now c.same_bytes.result c.same_bytes.ensures c.if-same_bytes.false c.same_bytes-2.result c.same_bytes-2.ensures c.if-same_bytes-2.false c.same_bytes-3.result c.same_bytes-3.ensures c.if-same_bytes-3.true

pub returns-then-same_bytes-4 : goal.returns-then-same_bytes-4
returns-then-same_bytes-4 c = number-remove c.args.v.now c.same_bytes.result c.same_bytes.ensures c.if-same_bytes.false c.same_bytes-2.result c.same_bytes-2.ensures c.if-same_bytes-2.false c.same_bytes-3.result c.same_bytes-3.ensures c.if-same_bytes-3.false c.same_bytes-4.result c.same_bytes-4.ensures c.if-same_bytes-4.true

pub returns-then-same_bytes-5 : goal.returns-then-same_bytes-5
returns-then-same_bytes-5 c = number-context c.args.v.now c.same_bytes.result c.same_bytes.ensures c.if-same_bytes.false c.same_bytes-2.result c.same_bytes-2.ensures c.if-same_bytes-2.false c.same_bytes-3.result c.same_bytes-3.ensures c.if-same_bytes-3.false c.same_bytes-4.result c.same_bytes-4.ensures c.if-same_bytes-4.false c.same_bytes-5.result c.same_bytes-5.ensures c.if-same_bytes-5.true

pub returns : goal.returns
returns c = number_none c.args.v.now c.same_bytes.result c.same_bytes.ensures c.if-same_bytes.false c.same_bytes-2.result c.same_bytes-2.ensures c.if-same_bytes-2.false c.same_bytes-3.result c.same_bytes-3.ensures c.if-same_bytes-3.false c.same_bytes-4.result c.same_bytes-4.ensures c.if-same_bytes-4.false c.same_bytes-5.result c.same_bytes-5.ensures c.if-same_bytes-5.false
