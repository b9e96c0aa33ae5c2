pub mod GroupBoards
pub mod GroupFields
