-- Histories: the value that a resource has now, and those that it had before.
--
-- history of a value: The value now and each that it had before a change which wasn't taken back;
-- after a change, its start, an earlier history, whether it is unchanged.
use Rattle.std.specs.Prelude.{◌≡◌, List, [], ◌∷◌, ◌++◌, ◌==◌, Bool, length, refl}
use Rattle.std.specs.Coded.{Coded, code_by, coded×, coded_list}
use Rattle.iso_model.specs.contracts.resource.Resource.{the_row}
use Rattle.iso_model.specs.Resources.{changed}
use Rattle.iso_model.specs.declared.resource.Resource.{Resource}
use Rattle.iso_model.specs.declared.resource.Change.{Change}

-- the value now, and the value before each change that wasn't taken back, newest first
pub record History : Type 0 where
  pub now : Resource
  pub past : List Resource

-- a history is stored as the pair of its parts
abbrev pub history_code : Coded History
history_code =
    code_by (Resource × List Resource) (coded× the_row.coded (coded_list the_row.coded))
    (λ h. (h.now, h.past)) (λ p. record { now = p.0; past = p.1 }) (λ _. refl)

-- all values of a history, newest first
abbrev pub values : History → List Resource
values h = h.now ∷ h.past

-- a history after one change more
abbrev pub after : Change → History → History
after change h = record { now = changed change h.now; past = h.now ∷ h.past }

-- a history before its last change
abbrev pub before_last : Resource → List Resource → History
before_last now [] = record { now = now; past = [] }
before_last now (v ∷ vs) = record { now = v; past = vs }

abbrev pub before : History → History
before h = before_last h.now h.past

-- the oldest value of a history
abbrev pub oldest : Resource → List Resource → Resource
oldest v [] = v
oldest v (w ∷ ws) = oldest w ws

-- the value at the start
abbrev pub start_of : History → Resource
start_of h = oldest h.now h.past

-- whether each change was taken back, or there was none
abbrev pub is_unchanged : History → Bool
is_unchanged h = length h.past == 0

-- the second history came from the first by further changes
pub record IsEarlier (mark h : History) : Type 0 where
  pub newer : List Resource
  pub is : values h ≡ newer ++ values mark
