use Rattle.iso_isolation.proofs.Fresh.{history_home, history_value}
use Rattle.iso_isolation.proofs.laws.keys_stand_where_histories_tell.Goals as goal

pub returns-clause-value : goal.returns-clause-value
returns-clause-value t c = λ l x laws plan workers h k is. history_value l x plan laws workers h is k

pub returns-clause-home : goal.returns-clause-home
returns-clause-home t c = λ l x laws plan workers h k is none. history_home l x plan laws workers h is k none
