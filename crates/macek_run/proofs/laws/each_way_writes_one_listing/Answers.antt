use Rattle.formats.specs.Words.{StandsAtMacek, StandsAtAlone}
use Rattle.command_words.proofs.Readings.{one_reading, one_reading_alone}
use Rattle.macek_run.proofs.Ways.{one_listing, same_text}
use Rattle.macek_run.proofs.laws.each_way_writes_one_listing.Goals as goal

pub returns : goal.returns
returns c = record {
  alone = one_listing StandsAtAlone StandsAtAlone one_reading_alone one_reading_alone;
  beside_workers = one_listing StandsAtAlone StandsAtMacek one_reading_alone one_reading;
  workers = one_listing StandsAtMacek StandsAtMacek one_reading one_reading;
  text = same_text;
}
