-- A limit, in the words of meaning.
use Rattle.meaning.specs.Limit.{limit}
use Rattle.meaning.specs.Limit as meant
use Rattle.limit.specs.declared.Limit.{Limit}

abbrev pub told : Limit → meant.Limit
told m = limit m.digits m.tens
