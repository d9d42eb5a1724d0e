-- How a run ends, and a fact for one end.
use Rattle.std.specs.Prelude.{ℕ, List, ⊤}
use Rattle.rel_base.specs.declared.why.Why.{Why}
use Rattle.profile_cli.specs.declared.outcome.Outcome.{Outcome}
use Rattle.profile_cli.specs.declared.outcome.Outcome.TheVariants.{Done, Usage, Refused, ReadFault, WriteFault, NoMemory}

abbrev pub status_of : Outcome → ℕ
status_of Done = 0
status_of Usage = 2
status_of (Refused file rec why) = 3
status_of (ReadFault file) = 4
status_of WriteFault = 5
status_of NoMemory = 6

abbrev pub OnDone : Outcome → Type 0 → Type 0
OnDone Done P = P
OnDone Usage P = ⊤
OnDone (Refused file rec why) P = ⊤
OnDone (ReadFault file) P = ⊤
OnDone WriteFault P = ⊤
OnDone NoMemory P = ⊤

abbrev pub OnUsage : Outcome → Type 0 → Type 0
OnUsage Done P = ⊤
OnUsage Usage P = P
OnUsage (Refused file rec why) P = ⊤
OnUsage (ReadFault file) P = ⊤
OnUsage WriteFault P = ⊤
OnUsage NoMemory P = ⊤

abbrev pub IfRefused : Outcome → (List ℕ → ℕ → Why → Type 0) → Type 0
IfRefused Done P = ⊤
IfRefused Usage P = ⊤
IfRefused (Refused file rec why) P = P file rec why
IfRefused (ReadFault file) P = ⊤
IfRefused WriteFault P = ⊤
IfRefused NoMemory P = ⊤

abbrev pub IfReadFault : Outcome → (List ℕ → Type 0) → Type 0
IfReadFault Done P = ⊤
IfReadFault Usage P = ⊤
IfReadFault (Refused file rec why) P = ⊤
IfReadFault (ReadFault file) P = P file
IfReadFault WriteFault P = ⊤
IfReadFault NoMemory P = ⊤

abbrev pub OnWriteFault : Outcome → Type 0 → Type 0
OnWriteFault Done P = ⊤
OnWriteFault Usage P = ⊤
OnWriteFault (Refused file rec why) P = ⊤
OnWriteFault (ReadFault file) P = ⊤
OnWriteFault WriteFault P = P
OnWriteFault NoMemory P = ⊤

abbrev pub OnNoMemory : Outcome → Type 0 → Type 0
OnNoMemory Done P = ⊤
OnNoMemory Usage P = ⊤
OnNoMemory (Refused file rec why) P = ⊤
OnNoMemory (ReadFault file) P = ⊤
OnNoMemory WriteFault P = ⊤
OnNoMemory NoMemory P = P

-- a fact for each end but these two, behind which files may have been written
abbrev pub UnlessWritten : Outcome → Type 0 → Type 0
UnlessWritten Done P = ⊤
UnlessWritten Usage P = P
UnlessWritten (Refused file rec why) P = P
UnlessWritten (ReadFault file) P = P
UnlessWritten WriteFault P = ⊤
UnlessWritten NoMemory P = P

-- a fact for each end but these two, before which a call that reads may have failed
abbrev pub UnlessFaulted : Outcome → Type 0 → Type 0
UnlessFaulted Done P = P
UnlessFaulted Usage P = P
UnlessFaulted (Refused file rec why) P = P
UnlessFaulted (ReadFault file) P = ⊤
UnlessFaulted WriteFault P = P
UnlessFaulted NoMemory P = ⊤

-- ---- one of two ends
abbrev pub IsDoneOrNoMemory : Outcome → Type 0
IsDoneOrNoMemory Done = ⊤
IsDoneOrNoMemory Usage = ⊥
IsDoneOrNoMemory (Refused file rec why) = ⊥
IsDoneOrNoMemory (ReadFault file) = ⊥
IsDoneOrNoMemory WriteFault = ⊥
IsDoneOrNoMemory NoMemory = ⊤

abbrev pub IsUsageOrNoMemory : Outcome → Type 0
IsUsageOrNoMemory Done = ⊥
IsUsageOrNoMemory Usage = ⊤
IsUsageOrNoMemory (Refused file rec why) = ⊥
IsUsageOrNoMemory (ReadFault file) = ⊥
IsUsageOrNoMemory WriteFault = ⊥
IsUsageOrNoMemory NoMemory = ⊤

abbrev pub IsRefusedOrNoMemory : Outcome → Type 0
IsRefusedOrNoMemory Done = ⊥
IsRefusedOrNoMemory Usage = ⊥
IsRefusedOrNoMemory (Refused file rec why) = ⊤
IsRefusedOrNoMemory (ReadFault file) = ⊥
IsRefusedOrNoMemory WriteFault = ⊥
IsRefusedOrNoMemory NoMemory = ⊤

-- an end of a run that came to its writes
abbrev pub IsWritingEnd : Outcome → Type 0
IsWritingEnd Done = ⊤
IsWritingEnd Usage = ⊥
IsWritingEnd (Refused file rec why) = ⊥
IsWritingEnd (ReadFault file) = ⊥
IsWritingEnd WriteFault = ⊤
IsWritingEnd NoMemory = ⊤
