use Rattle.reader.proofs.ContentLaws.{decode-long, decode-told}
use Rattle.reader.proofs.body.decode_value.Goals as goal

pub returns-then-v : goal.returns-then-v
returns-then-v c = decode-long _ c.args.out.now c.requires.v_value c.if-v.true

pub returns : goal.returns
returns c = decode-told _ _ c.requires.v_value _ c.requires.out_len _ c.decode.ensures.result_after c.decode.ensures.decodes_within c.decode.auto.out _ c.ok.ensures.value
