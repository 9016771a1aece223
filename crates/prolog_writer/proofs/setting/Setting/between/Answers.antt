use Rattle.std.proofs.Common.{sym, rules}
use Rattle.prolog_writer.specs.SettingOf.{setting_of}
use Rattle.prolog_writer.proofs.setting.Setting.between.Goals as goal

pub returns-in-Tight : goal.returns-in-Tight
returns-in-Tight c = let e = c.in-Tight.ensures (setting_of c.args.self.now) in rw (sym e) (search rules)

pub returns-in-Spaced : goal.returns-in-Spaced
returns-in-Spaced c = let e = c.in-Spaced.ensures (setting_of c.args.self.now) in rw (sym e) (search rules)

pub returns-in-Apart : goal.returns-in-Apart
returns-in-Apart c = let e = c.in-Apart.ensures (setting_of c.args.self.now) in rw (sym e) (search rules)
