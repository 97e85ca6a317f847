-- What the code keeps stands for.
use Rattle.indexmap.specs.IndexMap as maps
use Rattle.indexmap.specs.IndexSet as sets
use Rattle.np_model.specs.Ground.{same_atom, same_term}
use Rattle.np_model.specs.States.{State}
use Rattle.np_run.specs.declared.kept_state.KeptState.{KeptState}
use Rattle.np_run.specs.declared.running.Running.{Running}
use Rattle.np_run.specs.Taking.{Progress}

-- the state in which the atoms of the set are true, and terms have the values of the map
abbrev pub kept : KeptState → State
kept k = record { has = sets.contains same_atom k.atoms; value = maps.get same_term k.values }

-- how far a run has come
abbrev pub progress : Running → Progress
progress r = record { state = kept r.state; metric = r.metric; cost = r.cost }
