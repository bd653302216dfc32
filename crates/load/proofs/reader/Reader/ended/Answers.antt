use Rattle.load.proofs.Fronts.{ended_is}
use Rattle.load.proofs.reader.Reader.ended.Goals as goal

pub returns : goal.returns
returns c = ended_is c.args.self.now.rest.now
