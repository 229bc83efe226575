-- The names of faults.
--
-- name of a fault: How a kind of fault is called, as a fault's line prints it (`fault_name`).
use Rattle.std.specs.Prelude.{ℕ, List, codes}
use Rattle.iso_script_statements.specs.declared.fault.ScriptFaultKind.{ScriptFaultKind}
use Rattle.iso_script_statements.specs.declared.fault.ScriptFaultKind.TheVariants as K

-- how a kind of fault is called, in a fault's line too
abbrev pub fault_name : ScriptFaultKind → List ℕ
fault_name K.BadByte = codes "BadByte"
fault_name K.BadToken = codes "BadToken"
fault_name K.NumberTooBig = codes "NumberTooBig"
fault_name K.OpenText = codes "OpenText"
fault_name K.Expected = codes "Expected"
fault_name K.DoubleBlock = codes "DoubleBlock"
fault_name K.DoubleMember = codes "DoubleMember"
fault_name K.NameTaken = codes "NameTaken"
fault_name K.EmptyClass = codes "EmptyClass"
fault_name K.TooDeep = codes "TooDeep"
fault_name K.TooLong = codes "TooLong"
fault_name K.BadDisplay = codes "BadDisplay"
fault_name K.GlobalKey = codes "GlobalKey"
fault_name K.EndOfInput = codes "EndOfInput"
