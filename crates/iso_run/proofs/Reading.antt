-- What is read of a reader's bytes.
use Rattle.std.proofs.Common.{◌≡◌, ◌≤◌, ◌+◌, ℕ, List, [], ◌∷◌, ◌++◌, Option, None, Some, IfOk, IfSome, Result, Ok, Err, Vec, length, map, take, is_some, option_map, ap, refl, subst, sym, ◌∙◌, arith}
use Rattle.std.proofs.lemmas.List.{length-take, take_all}
use Rattle.std.specs.Global.{Global}
use Rattle.iso_model.specs.declared.limits.TheConstants.{FILE_BYTES}
use Rattle.iso_run.specs.Commands.{IsOneRead}
use Rattle.iso_run.specs.declared.command_fault.CommandFault.{CommandFault}

pub read_up_to : (known : Option (List ℕ)) (limit : ℕ) (before after : List ℕ) → before ≡ []
    → IfSome (option_map (take limit) known) (λ xs. after ≡ before ++ xs) → IfSome known (λ bytes. after ≡ take limit bytes)
read_up_to None limit before after none h = tt
read_up_to (Some bytes) limit before after none h = h ∙ ap (λ (xs : List ℕ). xs ++ take limit bytes) none

-- what was read up to a limit and stays below it is all that there was
all-read : (limit : ℕ) (bytes read : List ℕ) → read ≡ take (limit + 1) bytes → length read ≤ limit → read ≡ bytes
all-read limit bytes read is short =
    let count = ap length is ∙ length-take (limit + 1) bytes in
    let few : length bytes ≤ limit + 1 = omega (arith, count, short) in
    is ∙ take_all (limit + 1) bytes few

pub listed-whole : {F : Type 0} (known : Option (List ℕ)) (limit : ℕ) (v : Vec ℕ Global) (result : Result (Option (Vec ℕ Global)) F) → IfSome known (λ bytes. v.items ≡ take (limit + 1) bytes)
    → IfOk result (λ listed. (listed ≡ Some v) × (length v.items ≤ limit)) → IfSome known (λ bytes. IfOk result (λ listed. option_map (λ (v : Vec ℕ Global). v.items) listed ≡ Some bytes))
listed-whole None limit v result read whole = tt
listed-whole (Some bytes) limit v (Err fault) read whole = tt
listed-whole (Some bytes) limit v (Ok listed) read whole = ap (option_map (λ (v : Vec ℕ Global). v.items)) whole.0 ∙ ap Some (all-read limit bytes v.items read whole.1)

-- one script that was read is what was read of the input
one-script : (input : Option (List ℕ)) (v : Vec ℕ Global) (read : Result (Vec ℕ Global) CommandFault) → Ok v ≡ read → IfSome input (λ bytes. IfOk read (λ v. v.items ≡ take (FILE_BYTES + 1) bytes))
    → IfSome input (λ bytes. v.items ∷ [] ≡ take (FILE_BYTES + 1) bytes ∷ [])
one-script None v read is h = tt
one-script (Some bytes) v read is h =
    let whole : IfOk {E = CommandFault} (Ok v) (λ (v : Vec ℕ Global). v.items ≡ take (FILE_BYTES + 1) bytes) = subst
    (λ (r : Result (Vec ℕ Global) CommandFault). IfOk r (λ v. v.items ≡ take (FILE_BYTES + 1) bytes)) (sym is) h in
    ap (λ (xs : List ℕ). xs ∷ []) whole

pub scripts-of-one : (input : Option (List ℕ)) (vs : List (Vec ℕ Global)) (reads : List (Result (Vec ℕ Global) CommandFault)) → map Ok vs ≡ reads → IsOneRead input reads
    → IfSome input (λ bytes. map (λ (v : Vec ℕ Global). v.items) vs ≡ take (FILE_BYTES + 1) bytes ∷ [])
scripts-of-one input [] reads all h = let never : [] ≡ h.0 ∷ [] = all ∙ h.1 in absurd (cc)
scripts-of-one input (v ∷ []) reads all h = let is : Ok v ∷ [] ≡ h.0 ∷ [] = all ∙ h.1 in one-script input v h.0 (cc) h.2
scripts-of-one input (v ∷ w ∷ vs) reads all h = let never : Ok v ∷ Ok w ∷ map Ok vs ≡ h.0 ∷ [] = all ∙ h.1 in absurd (cc)

pub some-mapped : (o : Option (Vec ℕ Global)) → is_some (option_map (λ (v : Vec ℕ Global). v.items) o) ≡ is_some o
some-mapped None = refl
some-mapped (Some v) = refl
