use Rattle.call.proofs.Call.at_source.Goals as goal

pub returns-in-Setup : goal.returns-in-Setup
returns-in-Setup c = rw c.in-Setup.is c.setup.ensures

pub returns-in-FromDomain : goal.returns-in-FromDomain
returns-in-FromDomain c = rw c.in-FromDomain.is c.called_release.ensures
