use Rattle.std.proofs.Common.{◌≡◌, subst}
use Rattle.std.specs.Prelude.{IfOk}
use Rattle.formats.specs.Request.{Request}
use Rattle.request_lines.specs.Versions.{version_number}
use Rattle.request_reader.specs.Requested.{asked_request}
use Rattle.request_reader.proofs.Outcomes.{request_from, accepted, refused, request_of_version, request_names}
use Rattle.request_reader.proofs.read.read_request.Goals as goal

pub request_for-requires-clause-of_version : goal.request_for-requires-clause-of_version
request_for-requires-clause-of_version c =
    let w = request_of_version c.args.text.now c.in_ok-rank.field-0 (version_number c.version_of-version.result) c.in-Some.rank c.in-Some-factors.factors
    c.in-Some-size.size c.version_of-version.ensures c.in_ok-rank.ensures.ok c.in-Some-factors.is in
    record { factors = w.factors; forbid = w.forbid; has = w.has }

pub request_for-requires-clause-names : goal.request_for-requires-clause-names
request_for-requires-clause-names c =
    let w = request_names c.args.text.now c.in_ok-rank.field-0 (version_number c.version_of-version.result) c.in-Some.rank c.in-Some-factors.factors
    c.in-Some-size.size c.in_ok-rank.ensures.ok in
    record { forbid = w.forbid; has = w.has }

pub returns-clause-ok : goal.returns-clause-ok
returns-clause-ok c =
    let values = c.in_ok-rank.field-0 in
    let version = version_number c.version_of-version.result in
    let asked : Request = asked_request (record {
      version = c.version_of-version.result;
      factors = c.in-Some-factors.factors;
      rank = c.in-Some.rank;
      size = c.in-Some-size.size;
      mode = c.unwrap_or-2.result;
      forbid = values.forbid;
      filters = values.filters;
      print = c.unwrap_or.result;
    }) in
    let same : asked ≡ request_from version c.in-Some-factors.factors c.in-Some.rank c.in-Some-size.size values =
    λ i. record asked { print = c.unwrap_or.ensures i; mode = c.unwrap_or-2.ensures i } in
    accepted version c.args.text.now values c.in-Some.rank c.in-Some-factors.factors c.in-Some-size.size c.request_for.result
    c.version_of-version.ensures c.in_ok-rank.ensures.ok c.in-Some.is c.in-Some-factors.is c.in-Some-size.is
    (subst (λ (q : Request). IfOk c.request_for.result (λ request. request ≡ q)) same c.request_for.ensures.request) c.request_for.ensures.limits

pub returns-clause-err : goal.returns-clause-err
returns-clause-err c =
    refused c.args.text.now c.in_ok-rank.field-0 c.in-Some.rank c.in-Some-factors.factors c.in-Some-size.size c.request_for.result
    c.in_ok-rank.ensures.ok c.in-Some.is c.in-Some-factors.is c.in-Some-size.is c.request_for.ensures.refused
