-- What the words of a live run say, in two parts.
use Rattle.std.specs.Prelude.{List, codes}
use Rattle.clap.specs.Words.{Row}
use Rattle.wsm_words.specs.declared.jobs.Followed.{Followed}
use Rattle.wsm_words.specs.declared.jobs.Following.{Following}
use Rattle.wsm_words.specs.Words.{HasOption, Names}

-- it has what the entries say of how a log is followed
abbrev pub IsFollowing : List Row → Following → Type 0
IsFollowing entries f =
    HasOption entries (codes "lost") f.lost × HasOption entries (codes "health") f.health × HasOption entries (codes "patience") f.patience
    × HasOption entries (codes "cut") f.cut

-- it has what the entries say of what is followed, and where
abbrev pub IsFollowed : List Row → Followed → Type 0
IsFollowed entries f = Names entries (codes "dir") f.dir × HasOption entries (codes "query") f.query × HasOption entries (codes "log") f.log
