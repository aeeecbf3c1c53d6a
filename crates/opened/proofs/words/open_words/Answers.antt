-- `open_words` meets its contract: parameters, voices and desk, one behind the other. Assumes nothing.
use Rattle.opened.specs.Written.{words_written}
use Rattle.opened.proofs.words.open_words.Goals as goal

pub returns : goal.returns
returns c =
    words_written c.args.p c.args.words.now c.requires.words_len c.put_params.ensures c.put_voices.ensures c.put_desk.ensures
