use Rattle.race_command.proofs.EndingLemmas.{ends_with_words}
use Rattle.race_command.proofs.program.run.Goals as goal

pub returns-clause-words : goal.returns-clause-words
returns-clause-words g c =
    let answered = c.answer_words-answer in
    rw c.from.ensures
    (ends_with_words g.R.Read.remaining g.W.Write.contents c.args.source.now answered.new.source
    c.args.sink.now answered.new.sink answered.result c.args.args c.words_of.result
    c.words_of.ensures.memory answered.ensures.words answered.ensures.no_words)
