-- The limits that tools ask for.
use Rattle.std.specs.Prelude.{codes}
use Rattle.serde_json.specs.Data.{Data, object, member, no_members}
use Rattle.wsm_record.specs.declared.limits.TheConstants.{LATEST_TIME, LONGEST_SPAN, MAX_COLUMNS, MAX_FIELDS, MAX_NAME, MAX_NAMES}
use Rattle.wsm_explain.specs.Json.{natural, whole}

abbrev pub limits_data : Data
limits_data =
    object
    (member (codes "columns") (natural MAX_COLUMNS)
    (member (codes "fields") (natural MAX_FIELDS)
    (member (codes "latest") (whole LATEST_TIME)
    (member (codes "longest") (whole LONGEST_SPAN)
    (member (codes "name") (natural MAX_NAME)
    (member (codes "names") (natural MAX_NAMES) no_members))))))
