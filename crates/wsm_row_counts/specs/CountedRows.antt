-- Rows and their counts, computed.
use Rattle.std.specs.Prelude.{◌≡◌, [], ◌∷◌, codes, refl}
use Rattle.wsm_row_counts.specs.Counted.{row_counted, why_of}

why : why_of (codes "refused,7,BadTag") ≡ codes "BadTag"
why = refl

no_why : why_of (codes "refused") ≡ []
no_why = refl

three : row_counted (row_counted (row_counted (record { kinds = []; refused = [] }) (codes "pane,on_time,a,0")) (codes "refused,7,BadTag")) (codes "refused,9,BadTag")
    ≡ record {
      kinds = record { word = codes "pane"; times = 1 } ∷ record { word = codes "refused"; times = 2 } ∷ [];
      refused = record { word = codes "BadTag"; times = 2 } ∷ [];
    }
three = refl
