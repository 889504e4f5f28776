-- What is said of keys that are dealt to no parts.
use Rattle.std.specs.Prelude.{ℕ, List, ◌++◌, codes}
use Rattle.std.specs.Fmt.{decimal}
use Rattle.wsm_deal.specs.declared.shares.SharesRefusal.{SharesRefusal}
use Rattle.wsm_deal.specs.declared.shares.SharesRefusal.TheVariants.{BadName, DuplicateName, NoNames, BadNumber, TooFewParts, TooManyParts, Memory}

-- as `K1 BadName in line 3`
abbrev pub refusal_text : SharesRefusal → List ℕ
refusal_text (BadName line) = codes "K1 BadName in line " ++ decimal line
refusal_text (DuplicateName line) = codes "K2 DuplicateName in line " ++ decimal line
refusal_text NoNames = codes "K3 NoNames"
refusal_text BadNumber = codes "K4 BadNumber"
refusal_text (TooFewParts parts) = codes "K5 TooFewParts, " ++ decimal parts ++ codes " would do"
refusal_text (TooManyParts parts) = codes "K6 TooManyParts, " ++ decimal parts ++ codes " would do"
refusal_text Memory = codes "out of memory"
