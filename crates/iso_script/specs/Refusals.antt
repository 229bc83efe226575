-- Why bytes weren't read as a script.
use Rattle.iso_script.specs.declared.explain.Explained.{Explained}
use Rattle.iso_script.specs.declared.explain.Unread.{Unread}
use Rattle.iso_script.specs.declared.explain.Unread.TheVariants.{OutOfMemory, Refused}

-- memory ran out, or this holds of why bytes are no script
abbrev pub IfRefused : (Explained → Type 0) → Unread → Type 0
IfRefused Is OutOfMemory = Unit {0}
IfRefused Is (Refused explained) = Is explained
