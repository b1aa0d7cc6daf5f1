-- The filters of a request, with the wanted minor's matroid.
use Rattle.matroid_theory.specs.Level as theory
use Rattle.request_reader.specs.declared.filters.Filters.{Filters}
use Rattle.request_reader.specs.Filters.{wanted_matroid}

abbrev pub filters_of : Filters → theory.Filters
filters_of f = record { connected = f.connected; three = f.three; cosimple = f.cosimple; distinct = f.distinct; has = wanted_matroid f }
