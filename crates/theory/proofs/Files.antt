pub mod NearFile
