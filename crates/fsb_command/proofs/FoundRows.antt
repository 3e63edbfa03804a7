-- What was found behind a verb, by its name and by its rows.
use Rattle.std.proofs.Common.{◌≡◌, List, Option, None, Some, sym, ap, true≢false, is_some}
use Rattle.std.specs.Prelude.{Box, option_map}
use Rattle.std.specs.Box.{box_value}
use Rattle.std.specs.Option.{unwrap_or}
use Rattle.clap.specs.Matches.{subcommand_name_of}
use Rattle.clap.specs.Simple.{subcommand_rows, subcommand_rows_of}
use Rattle.clap.specs.Walk.{Row, Text}
use Rattle.clap.specs.declared.parser.matches.ArgMatches.{ArgMatches}
use Rattle.clap.specs.declared.parser.matches.ArgMatches.TheViews.{out-ArgMatches, out-SubCommand}
use Rattle.clap.specs.declared.parser.matches.SubCommand.{SubCommand}

pub rows_found : (m : ArgMatches) (name : Text) (rows : List Row) → Some name ≡ subcommand_name_of m
    → Some rows ≡ option_map (λ p. p.1) (subcommand_rows_of m)
    → subcommand_rows_of m ≡ Some (name, rows)
rows_found m name rows named found = go (subcommand_rows_of m) (named_rows (out-ArgMatches m).subcommand named) found
  where
    named_rows : {Z : Type 0} (o : Option (Box SubCommand Z))
        → Some name ≡ option_map (λ b. (out-SubCommand (box_value b)).name.now) o
        → Some name ≡ option_map (λ p. p.0) (subcommand_rows o)
    named_rows None e = e
    named_rows (Some b) e = e

    go : (o : Option (Text × List Row)) → Some name ≡ option_map (λ p. p.0) o → Some rows ≡ option_map (λ p. p.1) o
        → o ≡ Some (name, rows)
    go None e f = absurd (true≢false (ap is_some e))
    go (Some p) e f = λ i. Some (sym (ap (λ o. unwrap_or o name) e) i, sym (ap (λ o. unwrap_or o rows) f) i)
