use Rattle.certificate.proofs.NumberingLoop.{among_at}
use Rattle.certificate.proofs.reading.numbering.take_places.Goals as goal

pub place_of-requires-clause-has : goal.place_of-requires-clause-has
place_of-requires-clause-has c = c.requires.has c.text-item.result (among_at c.args.texts.now c.loop-text.text-index c.text-item.result c.loop-text-test.true c.text-item.is)
