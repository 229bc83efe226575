-- One name to unfold where a proof computes what is shown of a name.
use Rattle.ucd_category.proofs.Computing.{ucd_category}

-- `unfolding unseen` lets `refl` compute whether a character is one that no reader sees
unfoldable pub unseen : Unit {0}
unfolding ucd_category
unseen = tt
