use Rattle.std.proofs.Common.{◌∙◌, drop, arith, rules}
use Rattle.std.proofs.lemmas.List.{length-drop, take_all}
use Rattle.bucket_codec.proofs.ViewLemmas.{rest_is}
use Rattle.bucket_codec.proofs.view.entry_part.Goals as goal

pub returns : goal.returns
returns c =
    take_all _ (drop 24 c.args.bytes.now) (omega (arith, length-drop 24 c.args.bytes.now))
    ∙ rest_is c.args.bytes.now c.requires.whole (search rules)
