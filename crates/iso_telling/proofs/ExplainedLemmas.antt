-- Faults that are explained.
use Rattle.std.proofs.Common.{◌≡◌, ℕ, List, Option}
use Rattle.iso_explain_block.specs.BlockFaults.{hints}
use Rattle.iso_model.specs.Chains.{ClassHead, TestHead}
use Rattle.iso_model.specs.declared.fault.FaultKind.{FaultKind}
use Rattle.iso_model.specs.declared.place.BlockName.{BlockName}

-- what mends a fault is what mends an equal one
pub same-hints : (kind : FaultKind) (block : BlockName) (row : ℕ) {m n : List ℕ} {hs ks : List ClassHead} {t u : Option TestHead} {x y : List ℕ}
    → m ≡ n → hs ≡ ks → t ≡ u → x ≡ y
    → hints (record { kind = kind; message = m; block = block; row = row; heads = hs; test = t; name = x })
    ≡ hints (record { kind = kind; message = n; block = block; row = row; heads = ks; test = u; name = y })
same-hints kind block row p q r s = λ i. hints (record { kind = kind; message = p i; block = block; row = row; heads = q i; test = r i; name = s i })
