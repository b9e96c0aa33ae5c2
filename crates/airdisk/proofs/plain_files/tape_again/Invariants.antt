use Rattle.airdisk.proofs.plain_files.tape_again.Given as goal

abbrev pub decreases-loop-count : goal.decreases-loop-count
decreases-loop-count g l = l.left
