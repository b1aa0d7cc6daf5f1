use Rattle.request_reader.proofs.FilterValues.{flag_result, wanted_result, wanted_again}
use Rattle.request_reader.proofs.filters.Filters.with.Goals as goal

pub returns-in-Flag : goal.returns-in-Flag
returns-in-Flag c = flag_result c.args.self c.args.filter c.in-Flag.flag c.with_flag.result c.in-Flag.is c.with_flag.ensures

pub returns-in-Has : goal.returns-in-Has
returns-in-Has c = wanted_result c.args.self c.args.filter c.in-Has.named c.with_wanted.result c.in-Has.is c.if-is_none.ensures c.with_wanted.ensures

pub returns-in-Has-2 : goal.returns-in-Has-2
returns-in-Has-2 c = λ es e h s. wanted_again es c.args.self c.args.filter e c.in-Has.named h s c.in-Has.is c.if-is_none.ensures
