-- The names of calls.
use Rattle.std.specs.Prelude.{ℕ, List, codes}
use Rattle.scripts.specs.declared.verbs.Verb.{Verb}
use Rattle.scripts.specs.declared.verbs.Verb.TheVariants.{Start, Roster, Tables, Row, Open, Record, Close, Release}

-- the name of each call in a script
abbrev pub name_of : Verb → List ℕ
name_of Start = codes "start"
name_of Roster = codes "roster"
name_of Tables = codes "tables"
name_of Row = codes "row"
name_of Open = codes "open"
name_of Record = codes "record"
name_of Close = codes "close"
name_of Release = codes "release"
