use Rattle.program_trials.proofs.value_texts.TypeReader.+read.Given as goal

abbrev pub decreases-read : goal.decreases-read
decreases-read l = l.depth
