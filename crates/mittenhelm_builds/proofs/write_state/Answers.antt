-- `write_state` meets its contract: nine stores fill the slice. Assumes nothing.
use Rattle.mittenhelm_builds.proofs.Words.{nine_words}
use Rattle.mittenhelm_builds.specs.Words.{words_of}
use Rattle.mittenhelm_builds.proofs.write_state.Goals as goal

pub returns : goal.returns
unfolding words_of
returns c = rw c.from.ensures (nine_words c.args.words.now _ _ _ _ _ _ _ _ _ c.requires)
