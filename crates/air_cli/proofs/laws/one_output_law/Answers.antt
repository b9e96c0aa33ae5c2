use Rattle.air_cli.proofs.TopLemmas.{quiet_given, words_given}
use Rattle.air_cli.proofs.laws.one_output_law.Goals as goal

pub returns : goal.returns
returns c = record {
  words = λ words mast mast_now mast2 mast_now2 ear ear_now ear2 ear_now2 before now before2 now2 s s2.
      words_given words mast mast_now mast2 mast_now2 ear ear_now ear2 ear_now2 before now before2 now2 s s2;
  quiet = λ words before now before2 now2 s s2. quiet_given words before now before2 now2 s s2;
}
