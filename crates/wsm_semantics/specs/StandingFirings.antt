-- Which firing stands for a pane: the latest of those that hold all that any had shown of it. This is
-- this project's own rule.
use Rattle.std.specs.Prelude.{Bool, ◌&&◌, List, filter, Option, None}
use Rattle.std.specs.List.{last_or, list_all}
use Rattle.wsm_windows.specs.declared.place.Place.{Place}
use Rattle.wsm_semantics.specs.Query.{Datum, Query}
use Rattle.wsm_semantics.specs.Firings.{Firing, holds, shows}

-- each record of the first is one of the second
abbrev pub is_within : List Datum → List Datum → Bool
is_within xs ys = list_all (λ d. holds d ys) xs

-- the firings that may stand for a place: those that show it, with contents among its own
abbrev pub candidates : Query → Place → List Datum → List Firing → List Firing
candidates q p all fs = filter (λ f. shows q.shape p f.place && is_within f.contents all) fs

-- the contents of a firing hold those of all
abbrev pub holds_all : List Firing → Firing → Bool
holds_all fs f = list_all (λ g. is_within g.contents f.contents) fs

-- the latest of some firings whose contents hold those of all
abbrev pub greatest_of : List Firing → Option Firing
greatest_of fs = last_or None (filter (holds_all fs) fs)

-- the firing that stands for a place with its contents, among the firings so far
abbrev pub standing : Query → List Firing → Place → List Datum → Option Firing
standing q fs p all = greatest_of (candidates q p all fs)
