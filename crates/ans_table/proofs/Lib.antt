mod LabelLemmas
mod CountLemmas
mod NameLemmas
mod ShellLemmas
mod JsonLemmas
